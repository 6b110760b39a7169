-- How answers and texts belong together.
use Rattle.std.specs.Prelude.{◌≡◌, ◌⊎◌, ℕ, ◌+◌, List, ◌∷◌, ◌++◌, length, codes, Some, None, Result, Ok, Err}
use Rattle.fapp_text.specs.declared.failure.Failure.{Failure}
use Rattle.fapp_text.specs.declared.failure.Failure.TheVariants.{NoMemory}
use Rattle.fapp_text.specs.Reading.{fault}
use Rattle.fapp_model.specs.declared.instance.Instance.{Instance}
use Rattle.fapp_model.specs.Instances.{IsInstance}
use Rattle.cert_lines.specs.declared.answer.Answer.{Answer}
use Rattle.cert_lines.specs.declared.fault.CertCause.TheVariants.{AfterEnd}
use Rattle.cert_lines.specs.Spelling.{version_lines, head_text, lines_text, answer_text}
use Rattle.cert_lines.specs.WellFormed.{IsWellFormed}
use Rattle.cert_lines.specs.Reading.{TextFault, first_fault, IsReading}

-- the number of the line after END: before it stand a line for each choice, `--`, the verdict, the
-- version where a line says it, the certificate's lines and END
abbrev pub line_after : Answer → ℕ
line_after answer =
    length answer.plan + length (version_lines answer.version) + length answer.lines + 4

-- no two answers have one text
abbrev pub OneText : Type 0
OneText = (instance : Instance) → IsInstance instance → (answer other : Answer) →
    IsWellFormed instance answer → IsWellFormed instance other →
    answer_text instance answer ≡ answer_text instance other → answer ≡ other

-- the text of an answer has no fault
abbrev pub NoFault : Type 0
NoFault =
    (instance : Instance) → IsInstance instance → (answer : Answer) → IsWellFormed instance answer →
    first_fault instance (answer_text instance answer) ≡ None

-- a byte behind it is one
abbrev pub FaultBehind : Type 0
FaultBehind =
    (instance : Instance) → IsInstance instance → (answer : Answer) → IsWellFormed instance answer →
    (b : ℕ) (more : List ℕ) → first_fault instance (answer_text instance answer ++ b ∷ more)
    ≡ Some (fault (line_after answer) AfterEnd)

-- a text without a fault is that of an answer
abbrev pub TextOfAnswer : Type 0
TextOfAnswer =
    (instance : Instance) → IsInstance instance → (bytes : List ℕ) →
    first_fault instance bytes ≡ None →
    (answer : Answer) × IsWellFormed instance answer × (bytes ≡ answer_text instance answer)

-- the text of an answer in its parts
abbrev pub InParts : Type 0
InParts = (instance : Instance) (answer : Answer) →
    answer_text instance answer ≡ head_text instance answer ++ lines_text answer.lines
    ++ codes "END\n"

-- what was written is read as the same answer, unless memory runs out
abbrev pub ReadsBack : Type 0
ReadsBack =
    (instance : Instance) → IsInstance instance → (answer : Answer) → IsWellFormed instance answer →
    (result : Result Answer (Failure TextFault)) →
    IsReading instance (answer_text instance answer) result →
    (result ≡ Ok answer) ⊎ (result ≡ Err NoMemory)
