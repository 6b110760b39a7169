-- The lines of a plan, by their fields.
use Rattle.std.specs.Prelude.{ℕ, ◌==◌, ◌&&◌, Bool, nat_lt, List, length, ℤ, codes, Option, Some, None, Result, Ok, Err, if◌then◌else◌}
use Rattle.std.specs.List.{list_any}
use Rattle.std.specs.Option.{ok_or}
use Rattle.std.specs.Str.{bytes_eq}
use Rattle.fapp_text.specs.Reading.{◌>>=◌, allowed}
use Rattle.fapp_text.specs.Signs.{sign_of}
use Rattle.fapp_model.specs.declared.choice.Choice.{Choice}
use Rattle.fapp_model.specs.declared.instance.Instance.{Instance}
use Rattle.fapp_model.specs.Assignments.{path_at}
use Rattle.cert_lines.specs.declared.fault.CertCause.{CertCause}
use Rattle.cert_lines.specs.declared.fault.CertCause.TheVariants.{BadKind, BadNumber, BadOrder, UnknownPath}
use Rattle.cert_lines.specs.FieldReading.{field_at, ended, number_at}

unfoldable pub polarization_at : List (List ℕ) → Result (ℤ × List (List ℕ)) CertCause
polarization_at fields = do
  field ← field_at fields
  pol ← ok_or (sign_of field.0) BadNumber
  Ok (pol, field.1)

-- what a number in another path's place is
abbrev pub misplaced : Instance → ℕ → CertCause
misplaced instance number =
    if list_any (λ path. path.number == number) instance.paths then BadOrder else UnknownPath

-- the number is that of the path at a place
abbrev pub is_turn : Instance → ℕ → ℕ → Bool
is_turn instance place number =
    nat_lt place (length instance.paths) && ((path_at instance place).number == number)

-- the choice of the path at a place
unfoldable pub choice_line : Instance → ℕ → List (List ℕ) → Result Choice CertCause
choice_line instance place fields = do
  number ← number_at fields
  rest ← allowed (is_turn instance place number.0) (misplaced instance number.0) number.1
  freq ← number_at rest
  pol ← polarization_at freq.1
  end ← ended pol.1
  Ok (record { freq = freq.0; pol = pol.0 })

-- a line of a plan that has so many lines before it, or the line that ends it
unfoldable pub plan_line : Instance → ℕ → List (List ℕ) → Result (Option Choice) CertCause
plan_line instance place fields = do
  word ← field_at fields
  if bytes_eq word.0 (codes "--") then (ended word.1 >>= λ end. Ok None)
      else if bytes_eq word.0 (codes "AL")
      then (choice_line instance place word.1 >>= λ choice. Ok (Some choice)) else Err BadKind
