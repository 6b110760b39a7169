-- A text, line by line. The last part of it, which no line feed ends, is no line of an answer.
use Rattle.std.specs.Prelude.{◌≡◌, ℕ, ◌+◌, List, [], ◌∷◌, Option, Some, None, Result, Ok, Err}
use Rattle.std.specs.List.{slice_split}
use Rattle.fapp_text.specs.declared.failure.Failure.{Failure}
use Rattle.fapp_text.specs.declared.failure.Failure.TheVariants.{Bad, NoMemory}
use Rattle.fapp_text.specs.declared.failure.LineFault.{LineFault}
use Rattle.fapp_text.specs.Lines.{is_line_feed}
use Rattle.fapp_text.specs.Reading.{◌>>=◌, fault, at_line}
use Rattle.fapp_model.specs.declared.instance.Instance.{Instance}
use Rattle.cert_lines.specs.declared.answer.Answer.{Answer}
use Rattle.cert_lines.specs.declared.fault.CertCause.{CertCause}
use Rattle.cert_lines.specs.declared.fault.CertCause.TheVariants.{NoEnd, AfterEnd}
use Rattle.cert_lines.specs.Spelling.{answer_text}
use Rattle.cert_lines.specs.WellFormed.{IsWellFormed}
use Rattle.cert_lines.specs.FieldReading.{fields_of}
use Rattle.cert_lines.specs.PlanReading.{plan_line}
use Rattle.cert_lines.specs.VerdictReading.{verdict_line}
use Rattle.cert_lines.specs.VersionReading.{version_line}
use Rattle.cert_lines.specs.CertificateReading.{certificate_line}

-- the first fault of a text: its line and what is wrong there
abbrev pub TextFault : Type 0
TextFault = LineFault CertCause

-- what stands before, between and after the line feeds
abbrev pub parts_of : List ℕ → List (List ℕ)
parts_of bytes = slice_split is_line_feed bytes

-- the number of the next line, and the parts from it on
abbrev pub Rest : Type 0
Rest = ℕ × List (List ℕ)

-- the fields of the next line
unfoldable pub next_line : Rest → Result (List (List ℕ) × Rest) TextFault
next_line (number, []) = Err (fault number NoEnd)
next_line (number, last ∷ []) = Err (fault number NoEnd)
next_line (number, line ∷ next ∷ parts) = Ok (fields_of line, (number + 1, next ∷ parts))

-- the next line, read by its fields
unfoldable pub line_by : {A : Type 0} → (List (List ℕ) → Result A CertCause) → Rest →
    Result (A × Rest) TextFault
line_by read rest = do
  line ← next_line rest
  found ← at_line rest.0 (read line.0)
  Ok (found, line.1)

-- what a line gave, before what the lines after it give
abbrev pub and_then : {A : Type 0} → Option A → Result (List A × Rest) TextFault → Rest →
    Result (List A × Rest) TextFault
and_then None more rest = Ok ([], rest)
and_then (Some x) more rest = more >>= λ others. Ok (x ∷ others.0, others.1)

-- the lines up to the one that ends them, each read by the count of those before it
abbrev pub until : {A : Type 0} → (ℕ → List (List ℕ) → Result (Option A) CertCause) → ℕ → ℕ →
    List (List ℕ) →
    Result (List A × Rest) TextFault
until read place number [] = Err (fault number NoEnd)
until read place number (line ∷ parts) = line_by (read place) (number, line ∷ parts) >>=
    λ x. and_then x.0 (until read (place + 1) (number + 1) parts) x.1

-- the version that a line said, or 1, and the lines that are left
abbrev pub version_or : Rest → Option ℕ × Rest → ℕ × Rest
version_or rest (Some version, after) = (version, after)
version_or rest (None, after) = (1, rest)

-- the version, which the next line may say
unfoldable pub version_at : Rest → Result (ℕ × Rest) TextFault
version_at rest = line_by version_line rest >>= λ found. Ok (version_or rest found)

-- no byte follows
abbrev pub finished : Rest → Result (Unit {0}) TextFault
finished (number, []) = Err (fault number AfterEnd)
finished (number, [] ∷ []) = Ok tt
finished (number, [] ∷ next ∷ parts) = Err (fault number AfterEnd)
finished (number, (b ∷ bytes) ∷ parts) = Err (fault number AfterEnd)

-- the answer that a text is, or its first fault
unfoldable pub reading : Instance → List ℕ → Result Answer TextFault
reading instance bytes = do
  plan ← until (plan_line instance) 0 1 (parts_of bytes)
  verdict ← line_by (verdict_line instance) plan.1
  version ← version_at verdict.1
  lines ← until (λ place. certificate_line version.0 instance) 0 version.1.0 version.1.1
  end ← finished lines.1
  Ok (record { plan = plan.0; verdict = verdict.0; version = version.0; lines = lines.0 })

abbrev pub fault_in : {A : Type 0} → Result A TextFault → Option TextFault
fault_in (Ok x) = None
fault_in (Err found) = Some found

-- the first fault of a text that is no answer's
abbrev pub first_fault : Instance → List ℕ → Option TextFault
first_fault instance bytes = fault_in (reading instance bytes)

-- What was read is well formed, and the bytes are its text. A fault is the first one of the bytes.
-- Memory may run out at any text.
abbrev pub IsReading : Instance → List ℕ → Result Answer (Failure TextFault) → Type 0
IsReading instance bytes (Ok answer) =
    IsWellFormed instance answer × (bytes ≡ answer_text instance answer)
IsReading instance bytes (Err NoMemory) = Unit {0}
IsReading instance bytes (Err (Bad found)) = first_fault instance bytes ≡ Some found
