-- What is answered to the bytes of the input of a check.
use Rattle.std.specs.Prelude.{◌≡◌, ℕ, ◌<◌, ◌≤◌, ◌+◌, List, length, Option, Some, None, Ok, Err}
use Rattle.fapp_model.specs.declared.limits.TheConstants.{MAX_WORKERS}
use Rattle.fapp_model.specs.declared.instance.Instance.{Instance}
use Rattle.fapp_text.specs.Reading.{fault}
use Rattle.record_reader.specs.Texts.{instance_of_text}
use Rattle.cert_lines.specs.declared.answer.Answer.{Answer}
use Rattle.cert_lines.specs.Reading.{TextFault, first_fault}
use Rattle.cert_lines.specs.Spelling.{answer_text}
use Rattle.cert_lines.specs.WellFormed.{IsWellFormed}
use Rattle.cert_lines.specs.acceptance.Accepts.{Accepts, answer_fault}
use Rattle.answer_writer.specs.declared.status.Status.{Status}
use Rattle.answer_writer.specs.declared.status.Status.TheVariants.{Accepted, Rejected, BadInput, BadAnswer, TooLong, NoAnswer}
use Rattle.answer_writer.specs.Refusals.{refusal_line}
use Rattle.answer_writer.specs.Texts.{accepted_text}
use Rattle.fapp_words.specs.declared.options.CheckOptions.{CheckOptions}
use Rattle.fapp_run.specs.declared.judgement.TheConstants.{MAX_CHECK_INPUT}
use Rattle.fapp_run.specs.Halves.{Halves, halves}

-- options in their ranges
pub record AreCheckOptions (options : CheckOptions) : Type 0 where
  pub some_workers : 1 ≤ options.workers
  pub few_workers : options.workers ≤ MAX_WORKERS

-- an answer that was read: it is accepted, with its verdict, or this is its first fault
abbrev pub IsJudgedAnswer : Instance → Answer → Status → List ℕ → Type 0
IsJudgedAnswer instance answer Accepted text =
    Accepts instance answer × (text ≡ accepted_text answer.verdict)
IsJudgedAnswer instance answer (Rejected fault) text =
    (answer_fault instance answer ≡ Some fault) × (text ≡ refusal_line (Rejected fault))
IsJudgedAnswer instance answer _ text = ⊥

-- the first fault of a text that is no answer's, behind so many lines
abbrev pub IsFaultBehind : Instance → List ℕ → ℕ → TextFault → Type 0
IsFaultBehind instance bytes before bad =
    (found : TextFault) × (first_fault instance bytes ≡ Some found)
    × (bad ≡ fault (before + found.line) found.cause)

-- a text behind so many lines: it is that of an answer, which is judged, or this is its first fault
abbrev pub IsJudgedText : Instance → List ℕ → ℕ → Status → List ℕ → Type 0
IsJudgedText instance bytes before (BadAnswer bad) text =
    IsFaultBehind instance bytes before bad × (text ≡ refusal_line (BadAnswer bad))
IsJudgedText instance bytes before status text =
    (answer : Answer) × IsWellFormed instance answer × (bytes ≡ answer_text instance answer)
    × IsJudgedAnswer instance answer status text

-- an input with a line `--`: the instance's first refused line, or what is said of the answer to
-- that instance
abbrev pub IsJudgedInput : Halves → Status → List ℕ → Type 0
IsJudgedInput input (BadInput bad) text =
    (instance_of_text input.instance ≡ Err bad) × (text ≡ refusal_line (BadInput bad))
IsJudgedInput input status text =
    (instance : Instance) × (instance_of_text input.instance ≡ Ok instance)
    × IsJudgedText instance input.answer input.divider status text

-- an input without one: the first refused line of the whole, or that no answer stands behind the
-- instance
abbrev pub IsJudgedAlone : List ℕ → Status → List ℕ → Type 0
IsJudgedAlone bytes (BadInput bad) text =
    (instance_of_text bytes ≡ Err bad) × (text ≡ refusal_line (BadInput bad))
IsJudgedAlone bytes NoAnswer text =
    (instance : Instance) × (instance_of_text bytes ≡ Ok instance) × (text ≡ refusal_line NoAnswer)
IsJudgedAlone bytes _ text = ⊥

abbrev pub IsJudged : List ℕ → Option Halves → Status → List ℕ → Type 0
IsJudged bytes (Some input) status text = IsJudgedInput input status text
IsJudged bytes None status text = IsJudgedAlone bytes status text

-- the answer to an input: that it is longer than the limit, or what is said of it
abbrev pub Judges : List ℕ → Status → List ℕ → Type 0
Judges bytes TooLong text = (MAX_CHECK_INPUT < length bytes) × (text ≡ refusal_line TooLong)
Judges bytes status text =
    (length bytes ≤ MAX_CHECK_INPUT) × IsJudged bytes (halves bytes) status text

-- the input is an instance, a line `--` and the text of an answer to the instance
pub record IsCheckInput (bytes : List ℕ) (instance : Instance) (answer : Answer) : Type 0 where
  pub input : Halves
  pub cut : halves bytes ≡ Some input
  pub instance_read : instance_of_text input.instance ≡ Ok instance
  pub well_formed : IsWellFormed instance answer
  pub answer_read : input.answer ≡ answer_text instance answer
