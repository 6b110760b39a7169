-- The lines that tell of refusals.
use Rattle.std.specs.Prelude.{ℕ, List, [], ◌∷◌, ◌++◌, codes}
use Rattle.std.specs.Fmt.{decimal}
use Rattle.fapp_model.specs.declared.triple.Triple.{Triple}
use Rattle.fapp_model.specs.Tags.{triple_from}
use Rattle.fapp_text.specs.Lines.{line_feed}
use Rattle.record_reader.specs.Causes as input
use Rattle.cert_lines.specs.Causes as answer
use Rattle.cert_lines.specs.declared.reject.Rejected.{Rejected as Fault}
use Rattle.cert_lines.specs.declared.reject.RejectCause.{RejectCause}
use Rattle.cert_lines.specs.declared.reject.RejectCause.TheVariants.{TripleDiffers, RootTagTooLow}
use Rattle.cert_lines.specs.Rejects.{reject_name}
use Rattle.answer_writer.specs.declared.status.Status.{Status}
use Rattle.answer_writer.specs.declared.status.Status.TheVariants.{Best, NoneFeasible, Open, Accepted, Written, Rejected, Usage, BadInput, BadAnswer, TooLong, NoAnswer, ReadFault, WriteFault, NoMemory}

-- a word, a line and a cause
abbrev pub fault_line : List ℕ → ℕ → List ℕ → List ℕ
fault_line word line cause =
    word ++ codes " " ++ decimal line ++ codes " " ++ cause ++ line_feed ∷ []

-- three numbers, each behind a space
abbrev pub triple_text : Triple → List ℕ
triple_text t = codes " " ++ decimal t.k ++ codes " " ++ decimal t.v ++ codes " " ++ decimal t.s

-- what is claimed and what was found, where it is these that differ
abbrev pub values_text : RejectCause → List ℕ
values_text (TripleDiffers claimed found) = triple_text claimed ++ triple_text found
values_text (RootTagTooLow claimed found) =
    triple_text (triple_from claimed.code) ++ triple_text (triple_from found.code)
values_text _ = []

abbrev pub rejected_line : Fault → List ℕ
rejected_line fault =
    codes "REJECTED " ++ decimal fault.line ++ codes " " ++ reject_name fault.cause
    ++ values_text fault.cause
    ++ line_feed ∷ []

-- what tells of a refusal
abbrev pub refusal_line : Status → List ℕ
refusal_line Usage = codes "USAGE" ++ line_feed ∷ []
refusal_line (BadInput bad) = fault_line (codes "BADINPUT") bad.line (input.cause_name bad.cause)
refusal_line (BadAnswer bad) = fault_line (codes "BADANSWER") bad.line (answer.cause_name bad.cause)
refusal_line TooLong = codes "BADINPUT 0 TooLong" ++ line_feed ∷ []
refusal_line NoAnswer = codes "BADANSWER 0 NoAnswer" ++ line_feed ∷ []
refusal_line ReadFault = codes "READFAULT" ++ line_feed ∷ []
refusal_line (Rejected fault) = rejected_line fault
refusal_line Best = []
refusal_line NoneFeasible = []
refusal_line Open = []
refusal_line Accepted = []
refusal_line Written = []
refusal_line WriteFault = []
refusal_line NoMemory = []
