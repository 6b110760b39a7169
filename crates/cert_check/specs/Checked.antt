-- What `check` answers.
use Rattle.std.specs.Prelude.{◌≡◌, Some, Result, Ok, Err}
use Rattle.fapp_model.specs.declared.instance.Instance.{Instance}
use Rattle.cert_lines.specs.declared.answer.Answer.{Answer}
use Rattle.cert_lines.specs.acceptance.Accepts.{Accepts, answer_fault}
use Rattle.cert_check.specs.declared.error.CheckError.{CheckError}
use Rattle.cert_check.specs.declared.error.CheckError.TheVariants.{Rejected, NoMemory}

-- The answer is accepted, or this is its first fault. Memory may run out at any answer.
abbrev pub IsChecked : Instance → Answer → Result (Unit {0}) CheckError → Type 0
IsChecked instance answer (Ok done) = Accepts instance answer
IsChecked instance answer (Err (Rejected fault)) = answer_fault instance answer ≡ Some fault
IsChecked instance answer (Err NoMemory) = Unit {0}
