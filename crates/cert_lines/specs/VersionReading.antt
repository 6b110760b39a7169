-- The line of a version, by its fields.
use Rattle.std.specs.Prelude.{ℕ, List, codes, Option, Some, None, Result, Ok, if◌then◌else◌}
use Rattle.std.specs.Str.{bytes_eq}
use Rattle.fapp_text.specs.Reading.{◌>>=◌, allowed}
use Rattle.cert_lines.specs.declared.fault.CertCause.{CertCause}
use Rattle.cert_lines.specs.declared.fault.CertCause.TheVariants.{BadNumber}
use Rattle.cert_lines.specs.FieldReading.{field_at, ended}

-- the one version that a line says
unfoldable pub second_version : List (List ℕ) → Result ℕ CertCause
second_version fields = do
  number ← field_at fields
  rest ← allowed (bytes_eq number.0 (codes "2")) BadNumber number.1
  end ← ended rest
  Ok 2

-- the version that a line says, if it is a line of a version
unfoldable pub version_line : List (List ℕ) → Result (Option ℕ) CertCause
version_line fields = do
  word ← field_at fields
  if bytes_eq word.0 (codes "V") then (second_version word.1 >>= λ version. Ok (Some version))
      else Ok None
