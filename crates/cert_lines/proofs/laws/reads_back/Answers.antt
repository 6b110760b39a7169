use Rattle.std.proofs.Common.{◌≡◌, ◌⊎◌, Result, Ok, Err, None, refl, ap, sym, inl, inr}
use Rattle.fapp_model.specs.declared.instance.Instance.{Instance}
use Rattle.fapp_model.specs.Instances.{IsInstance}
use Rattle.cert_lines.specs.declared.answer.Answer.{Answer}
use Rattle.fapp_text.specs.declared.failure.Failure.{Failure}
use Rattle.fapp_text.specs.declared.failure.Failure.TheVariants.{Bad, NoMemory}
use Rattle.cert_lines.specs.Spelling.{answer_text}
use Rattle.cert_lines.specs.WellFormed.{IsWellFormed}
use Rattle.cert_lines.specs.Reading.{TextFault, IsReading, first_fault}
use Rattle.cert_lines.proofs.TextAnswers.{one_text, no_fault}
use Rattle.cert_lines.proofs.laws.reads_back.Goals as goal

back : (instance : Instance) → IsInstance instance → (answer : Answer) → IsWellFormed instance answer → (result : Result Answer (Failure TextFault)) → IsReading instance (answer_text instance answer) result → (result ≡ Ok answer) ⊎ (result ≡ Err NoMemory)
back instance valid answer formed (Ok other) read = inl (ap Ok (sym (one_text instance valid answer other formed read.0 read.1)))
back instance valid answer formed (Err NoMemory) read = inr refl
back instance valid answer formed (Err (Bad found)) read =
    let none : first_fault instance (answer_text instance answer) ≡ None = no_fault instance valid answer formed in
    absurd (cc (none, read))

pub returns : goal.returns
returns c = back
