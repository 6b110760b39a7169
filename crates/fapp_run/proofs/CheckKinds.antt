-- The ways in which a check can end, of which an input has one: the step at which it ends.
use Rattle.std.proofs.Common.{◌≡◌, ℕ, ◌+◌, ◌<◌, ◌≤◌, List, length, Option, Some, None, Result, Ok, Err, refl, sym, ap, ◌∙◌, ltb, arith, if◌then◌else◌}
use Rattle.fapp_model.specs.declared.instance.Instance.{Instance}
use Rattle.fapp_model.specs.Instances.{IsInstance}
use Rattle.fapp_text.specs.declared.failure.LineFault.{LineFault}
use Rattle.fapp_text.specs.Reading.{fault as fault_of}
use Rattle.record_reader.specs.declared.cause.Cause.{Cause}
use Rattle.record_reader.specs.Texts.{instance_of_text}
use Rattle.record_reader.proofs.LawProofs.{valid_text}
use Rattle.cert_lines.specs.declared.answer.Answer.{Answer}
use Rattle.cert_lines.specs.declared.reject.Rejected.{Rejected as Fault}
use Rattle.cert_lines.specs.Reading.{TextFault, reading, fault_in}
use Rattle.cert_lines.specs.Spelling.{answer_text}
use Rattle.cert_lines.specs.WellFormed.{IsWellFormed}
use Rattle.cert_lines.specs.acceptance.Accepts.{Accepts, answer_fault}
use Rattle.cert_lines.proofs.AgainLaws.{reading_again}
use Rattle.accept_laws.proofs.Accepting.{accepted-right}
use Rattle.answer_writer.specs.declared.status.Status.{Status}
use Rattle.answer_writer.specs.declared.status.Status.TheVariants.{Best, NoneFeasible, Open, Accepted, Written, Rejected, Usage, BadInput, BadAnswer, TooLong, NoAnswer, ReadFault, WriteFault, NoMemory}
use Rattle.fapp_run.specs.declared.judgement.TheConstants.{MAX_CHECK_INPUT}
use Rattle.fapp_run.specs.AnswerLaws.{IsProved}
use Rattle.fapp_run.specs.Halves.{Halves, halves}
use Rattle.fapp_run.specs.Judgements.{IsJudgedAnswer, IsFaultBehind, IsJudgedText, IsJudgedInput, IsJudgedAlone, IsJudged, Judges, IsCheckInput}

abbrev by_fault : Option Fault → Status
by_fault None = Accepted
by_fault (Some fault) = Rejected fault

abbrev by_reading : Instance → ℕ → Result Answer TextFault → Status
by_reading instance before (Ok answer) = by_fault (answer_fault instance answer)
by_reading instance before (Err found) = BadAnswer (fault_of (before + found.line) found.cause)

abbrev by_input : Halves → Result Instance (LineFault Cause) → Status
by_input input (Ok instance) = by_reading instance input.divider (reading instance input.answer)
by_input input (Err bad) = BadInput bad

abbrev by_whole : Result Instance (LineFault Cause) → Status
by_whole (Ok instance) = NoAnswer
by_whole (Err bad) = BadInput bad

abbrev by_halves : List ℕ → Option Halves → Status
by_halves bytes (Some input) = by_input input (instance_of_text input.instance)
by_halves bytes None = by_whole (instance_of_text bytes)

-- the status of an input
abbrev judged : List ℕ → Status
judged bytes = if ltb MAX_CHECK_INPUT (length bytes) then TooLong else by_halves bytes (halves bytes)

is_by_fault : (instance : Instance) (answer : Answer) (status : Status) (text : List ℕ) → IsJudgedAnswer instance answer status text → status ≡ by_fault (answer_fault instance answer)
is_by_fault instance answer Best text a = absurd a
is_by_fault instance answer NoneFeasible text a = absurd a
is_by_fault instance answer Accepted text a = sym (ap by_fault a.0)
is_by_fault instance answer (Rejected fault) text a = sym (ap by_fault a.0)
is_by_fault instance answer Usage text a = absurd a
is_by_fault instance answer (BadInput bad) text a = absurd a
is_by_fault instance answer (BadAnswer bad) text a = absurd a
is_by_fault instance answer TooLong text a = absurd a
is_by_fault instance answer NoAnswer text a = absurd a
is_by_fault instance answer ReadFault text a = absurd a
is_by_fault instance answer WriteFault text a = absurd a
is_by_fault instance answer Open text a = absurd a
is_by_fault instance answer Written text a = absurd a
is_by_fault instance answer NoMemory text a = absurd a

found_is : (instance : Instance) (bytes : List ℕ) (r : Result Answer TextFault) (found : TextFault) → reading instance bytes ≡ r → fault_in r ≡ Some found → reading instance bytes ≡ Err found
found_is instance bytes (Ok answer) found e h = absurd cc
found_is instance bytes (Err other) found e h = cc

text_is : (instance : Instance) → IsInstance instance → (bytes : List ℕ) (before : ℕ) (status : Status) (text : List ℕ) (answer : Answer) → IsWellFormed instance answer → bytes ≡ answer_text instance answer
    → IsJudgedAnswer instance answer status text → status ≡ by_reading instance before (reading instance bytes)
text_is instance valid bytes before status text answer formed e a =
    is_by_fault instance answer status text a ∙ sym (ap (by_reading instance before) (ap (reading instance) e ∙ reading_again instance valid answer formed))

bad_is : (instance : Instance) (bytes : List ℕ) (before : ℕ) (bad : TextFault) → IsFaultBehind instance bytes before bad → BadAnswer bad ≡ by_reading instance before (reading instance bytes)
bad_is instance bytes before bad (found, first, e) =
    ap BadAnswer e ∙ sym (ap (by_reading instance before) (found_is instance bytes (reading instance bytes) found refl first))

is_by_reading : (instance : Instance) → IsInstance instance → (bytes : List ℕ) (before : ℕ) (status : Status) (text : List ℕ) → IsJudgedText instance bytes before status text → status ≡ by_reading instance before (reading instance bytes)
is_by_reading instance valid bytes before Best text a = text_is instance valid bytes before Best text a.0 a.1 a.2 a.3
is_by_reading instance valid bytes before NoneFeasible text a = text_is instance valid bytes before NoneFeasible text a.0 a.1 a.2 a.3
is_by_reading instance valid bytes before Accepted text a = text_is instance valid bytes before Accepted text a.0 a.1 a.2 a.3
is_by_reading instance valid bytes before (Rejected fault) text a = text_is instance valid bytes before (Rejected fault) text a.0 a.1 a.2 a.3
is_by_reading instance valid bytes before Usage text a = text_is instance valid bytes before Usage text a.0 a.1 a.2 a.3
is_by_reading instance valid bytes before (BadInput bad) text a = text_is instance valid bytes before (BadInput bad) text a.0 a.1 a.2 a.3
is_by_reading instance valid bytes before (BadAnswer bad) text a = bad_is instance bytes before bad a.0
is_by_reading instance valid bytes before TooLong text a = text_is instance valid bytes before TooLong text a.0 a.1 a.2 a.3
is_by_reading instance valid bytes before NoAnswer text a = text_is instance valid bytes before NoAnswer text a.0 a.1 a.2 a.3
is_by_reading instance valid bytes before ReadFault text a = text_is instance valid bytes before ReadFault text a.0 a.1 a.2 a.3
is_by_reading instance valid bytes before WriteFault text a = text_is instance valid bytes before WriteFault text a.0 a.1 a.2 a.3
is_by_reading instance valid bytes before Open text a = text_is instance valid bytes before Open text a.0 a.1 a.2 a.3
is_by_reading instance valid bytes before Written text a = text_is instance valid bytes before Written text a.0 a.1 a.2 a.3
is_by_reading instance valid bytes before NoMemory text a = text_is instance valid bytes before NoMemory text a.0 a.1 a.2 a.3

input_is : (input : Halves) (status : Status) (text : List ℕ) (instance : Instance) → instance_of_text input.instance ≡ Ok instance → IsJudgedText instance input.answer input.divider status text
    → status ≡ by_input input (instance_of_text input.instance)
input_is input status text instance e a =
    is_by_reading instance (valid_text input.instance instance e) input.answer input.divider status text a ∙ sym (ap (by_input input) e)

is_by_input : (input : Halves) (status : Status) (text : List ℕ) → IsJudgedInput input status text → status ≡ by_input input (instance_of_text input.instance)
is_by_input input Best text a = input_is input Best text a.0 a.1 a.2
is_by_input input NoneFeasible text a = input_is input NoneFeasible text a.0 a.1 a.2
is_by_input input Accepted text a = input_is input Accepted text a.0 a.1 a.2
is_by_input input (Rejected fault) text a = input_is input (Rejected fault) text a.0 a.1 a.2
is_by_input input Usage text a = input_is input Usage text a.0 a.1 a.2
is_by_input input (BadInput bad) text a = sym (ap (by_input input) a.0)
is_by_input input (BadAnswer bad) text a = input_is input (BadAnswer bad) text a.0 a.1 a.2
is_by_input input TooLong text a = input_is input TooLong text a.0 a.1 a.2
is_by_input input NoAnswer text a = input_is input NoAnswer text a.0 a.1 a.2
is_by_input input ReadFault text a = input_is input ReadFault text a.0 a.1 a.2
is_by_input input WriteFault text a = input_is input WriteFault text a.0 a.1 a.2
is_by_input input Open text a = input_is input Open text a.0 a.1 a.2
is_by_input input Written text a = input_is input Written text a.0 a.1 a.2
is_by_input input NoMemory text a = input_is input NoMemory text a.0 a.1 a.2

is_by_whole : (bytes : List ℕ) (status : Status) (text : List ℕ) → IsJudgedAlone bytes status text → status ≡ by_whole (instance_of_text bytes)
is_by_whole bytes Best text a = absurd a
is_by_whole bytes NoneFeasible text a = absurd a
is_by_whole bytes Accepted text a = absurd a
is_by_whole bytes (Rejected fault) text a = absurd a
is_by_whole bytes Usage text a = absurd a
is_by_whole bytes (BadInput bad) text a = sym (ap by_whole a.0)
is_by_whole bytes (BadAnswer bad) text a = absurd a
is_by_whole bytes TooLong text a = absurd a
is_by_whole bytes NoAnswer text a = sym (ap by_whole a.1)
is_by_whole bytes ReadFault text a = absurd a
is_by_whole bytes WriteFault text a = absurd a
is_by_whole bytes Open text a = absurd a
is_by_whole bytes Written text a = absurd a
is_by_whole bytes NoMemory text a = absurd a

is_by_halves : (bytes : List ℕ) (h : Option Halves) (status : Status) (text : List ℕ) → IsJudged bytes h status text → status ≡ by_halves bytes h
is_by_halves bytes (Some input) status text a = is_by_input input status text a
is_by_halves bytes None status text a = is_by_whole bytes status text a

short_is : (bytes : List ℕ) → length bytes ≤ MAX_CHECK_INPUT → judged bytes ≡ by_halves bytes (halves bytes)
short_is bytes short = grind arith

judged_is : (bytes : List ℕ) (status : Status) (text : List ℕ) → length bytes ≤ MAX_CHECK_INPUT → IsJudged bytes (halves bytes) status text → status ≡ judged bytes
judged_is bytes status text short a = is_by_halves bytes (halves bytes) status text a ∙ sym (short_is bytes short)

long_is : (bytes : List ℕ) → MAX_CHECK_INPUT < length bytes → TooLong ≡ judged bytes
long_is bytes long = grind arith

is_judged : (bytes : List ℕ) (status : Status) (text : List ℕ) → Judges bytes status text → status ≡ judged bytes
is_judged bytes Best text a = judged_is bytes Best text a.0 a.1
is_judged bytes NoneFeasible text a = judged_is bytes NoneFeasible text a.0 a.1
is_judged bytes Accepted text a = judged_is bytes Accepted text a.0 a.1
is_judged bytes (Rejected fault) text a = judged_is bytes (Rejected fault) text a.0 a.1
is_judged bytes Usage text a = judged_is bytes Usage text a.0 a.1
is_judged bytes (BadInput bad) text a = judged_is bytes (BadInput bad) text a.0 a.1
is_judged bytes (BadAnswer bad) text a = judged_is bytes (BadAnswer bad) text a.0 a.1
is_judged bytes TooLong text a = long_is bytes a.0
is_judged bytes NoAnswer text a = judged_is bytes NoAnswer text a.0 a.1
is_judged bytes ReadFault text a = judged_is bytes ReadFault text a.0 a.1
is_judged bytes WriteFault text a = judged_is bytes WriteFault text a.0 a.1
is_judged bytes Open text a = judged_is bytes Open text a.0 a.1
is_judged bytes Written text a = judged_is bytes Written text a.0 a.1
is_judged bytes NoMemory text a = judged_is bytes NoMemory text a.0 a.1

pub one_check_status : (bytes : List ℕ) (one other : Status) (text more : List ℕ) → Judges bytes one text → Judges bytes other more → one ≡ other
one_check_status bytes one other text more a b = is_judged bytes one text a ∙ sym (is_judged bytes other more b)

-- what is to be accepted is
pub accepted : (bytes : List ℕ) (instance : Instance) (answer : Answer) (status : Status) (text : List ℕ) → length bytes ≤ MAX_CHECK_INPUT → IsCheckInput bytes instance answer → Accepts instance answer
    → Judges bytes status text → status ≡ Accepted
accepted bytes instance answer status text short given accepts a =
    let read : reading instance given.input.answer ≡ Ok answer = ap (reading instance) given.answer_read ∙ reading_again instance (valid_text given.input.instance instance given.instance_read) answer given.well_formed in
    is_judged bytes status text a ∙ short_is bytes short ∙ ap (by_halves bytes) given.cut ∙ ap (by_input given.input) given.instance_read ∙ ap (by_reading instance given.input.divider) read ∙ ap by_fault accepts

proved_by : (bytes text : List ℕ) (h : Option Halves) → halves bytes ≡ h → IsJudged bytes h Accepted text → IsProved bytes
proved_by bytes text (Some input) e (instance, read, (answer, formed, same, (accepts, line))) = record {
  instance = instance;
  answer = answer;
  input = record { input = input; cut = e; instance_read = read; well_formed = formed; answer_read = same };
  right = accepted-right instance answer (valid_text input.instance instance read) formed accepts;
}
proved_by bytes text None e a = absurd a

pub accepted_proved : (bytes text : List ℕ) → Judges bytes Accepted text → IsProved bytes
accepted_proved bytes text a = proved_by bytes text (halves bytes) refl a.1

not_too_long : (bytes : List ℕ) (h : Option Halves) (text : List ℕ) → IsJudged bytes h TooLong text → ⊥
not_too_long bytes (Some input) text a = a.2.3
not_too_long bytes None text a = a

pub as_judges : (bytes : List ℕ) (status : Status) (text : List ℕ) → length bytes ≤ MAX_CHECK_INPUT → IsJudged bytes (halves bytes) status text → Judges bytes status text
as_judges bytes Best text short a = (short, a)
as_judges bytes NoneFeasible text short a = (short, a)
as_judges bytes Accepted text short a = (short, a)
as_judges bytes (Rejected fault) text short a = (short, a)
as_judges bytes Usage text short a = (short, a)
as_judges bytes (BadInput bad) text short a = (short, a)
as_judges bytes (BadAnswer bad) text short a = (short, a)
as_judges bytes TooLong text short a = absurd (not_too_long bytes (halves bytes) text a)
as_judges bytes NoAnswer text short a = (short, a)
as_judges bytes ReadFault text short a = (short, a)
as_judges bytes WriteFault text short a = (short, a)
as_judges bytes Open text short a = (short, a)
as_judges bytes Written text short a = (short, a)
as_judges bytes NoMemory text short a = (short, a)
