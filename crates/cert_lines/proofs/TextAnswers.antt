-- The laws on answers and their texts.
use Rattle.std.proofs.Common.{◌≡◌, ℕ, List, None, Result, Ok, Err, refl, sym, ap, ◌∙◌}
use Rattle.fapp_model.specs.declared.instance.Instance.{Instance}
use Rattle.fapp_model.specs.Instances.{IsInstance}
use Rattle.cert_lines.specs.declared.answer.Answer.{Answer}
use Rattle.fapp_text.specs.declared.failure.Failure.{Failure}
use Rattle.fapp_text.specs.declared.failure.Failure.TheVariants as errors
use Rattle.cert_lines.specs.AnswerLaws.{OneText, NoFault, FaultBehind, TextOfAnswer, InParts}
use Rattle.cert_lines.specs.Reading.{TextFault, fault_in, reading, IsReading}
use Rattle.fapp_text.specs.Reading.{Gives}
use Rattle.cert_lines.proofs.AgainLaws.{reading_again, reading_past}
use Rattle.fapp_text.proofs.ReadingSteps.{ok_is}
use Rattle.cert_lines.proofs.TextLaws.{reading_takes}

pub is_reading : (instance : Instance) → IsInstance instance → (bytes : List ℕ) (result : Result Answer (Failure TextFault)) → Gives (λ x. x) result (reading instance bytes) → IsReading instance bytes result
is_reading instance valid bytes (Ok answer) e = reading_takes instance valid bytes answer e
is_reading instance valid bytes (Err errors.NoMemory) e = tt
is_reading instance valid bytes (Err (errors.Bad found)) e = ap fault_in e

pub one_text : OneText
one_text instance valid answer other good fine same =
    ok_is {E = TextFault} answer other (sym (reading_again instance valid answer good) ∙ ap (reading instance) same ∙ reading_again instance valid other fine)

pub no_fault : NoFault
no_fault instance valid answer good = ap fault_in (reading_again instance valid answer good)

pub fault_behind : FaultBehind
fault_behind instance valid answer good b more = ap fault_in (reading_past instance valid answer good b more)

no_fault_ok : (read : Result Answer TextFault) → fault_in read ≡ None → (answer : Answer) × (read ≡ Ok answer)
no_fault_ok (Ok answer) e = (answer, refl)
no_fault_ok (Err found) e = absurd cc

pub text_of_answer : TextOfAnswer
text_of_answer instance valid bytes e =
    let a = no_fault_ok (reading instance bytes) e in
    let h = reading_takes instance valid bytes a.0 a.1 in
    (a.0, h.0, h.1)

pub in_parts : InParts
in_parts instance answer = refl
