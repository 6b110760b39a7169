-- The lines of a certificate, by their fields.
use Rattle.std.specs.Prelude.{ℕ, ◌==◌, ◌&&◌, refl, List, [], codes, Option, Some, None, Result, Ok, Err, if◌then◌else◌}
use Rattle.std.specs.Str.{bytes_eq}
use Rattle.fapp_text.specs.Reading.{◌>>=◌}
use Rattle.fapp_model.specs.declared.instance.Instance.{Instance}
use Rattle.cert_lines.specs.declared.answer.Line.{Line}
use Rattle.cert_lines.specs.declared.answer.Rule.TheVariants.{Count, Branch, Delete}
use Rattle.cert_lines.specs.declared.fault.CertCause.{CertCause}
use Rattle.cert_lines.specs.declared.fault.CertCause.TheVariants.{BadKind}
use Rattle.cert_lines.specs.FieldReading.{field_at, ended, tag_at}
use Rattle.cert_lines.specs.ListReading.{position_at, literal_at, cite_at, child_at, list_at}

unfoldable pub count_line : Instance → List (List ℕ) → Result Line CertCause
count_line instance fields = do
  tag ← tag_at instance fields
  lits ← list_at (literal_at instance) tag.1
  cites ← list_at cite_at lits.1
  end ← ended cites.1
  Ok (record { tag = tag.0; lits = lits.0; rule = Count cites.0 })

unfoldable pub branch_line : Instance → List (List ℕ) → Result Line CertCause
branch_line instance fields = do
  tag ← tag_at instance fields
  lits ← list_at (literal_at instance) tag.1
  path ← position_at instance lits.1
  children ← list_at (child_at instance path.0) path.1
  end ← ended children.1
  Ok (record { tag = tag.0; lits = lits.0; rule = Branch path.0 children.0 })

unfoldable pub delete_line : List (List ℕ) → Result Line CertCause
delete_line fields = do
  cites ← list_at cite_at fields
  end ← ended cites.1
  Ok (record { tag = record { code = 0; of_tag = refl }; lits = []; rule = Delete cites.0 })

-- a line of a certificate of a version, or the line that ends it
unfoldable pub certificate_line : ℕ → Instance → List (List ℕ) → Result (Option Line) CertCause
certificate_line version instance fields = do
  word ← field_at fields
  if bytes_eq word.0 (codes "END") then (ended word.1 >>= λ end. Ok None)
      else if bytes_eq word.0 (codes "C")
      then (count_line instance word.1 >>= λ line. Ok (Some line))
      else if bytes_eq word.0 (codes "B")
      then (branch_line instance word.1 >>= λ line. Ok (Some line))
      else if (version == 2) && bytes_eq word.0 (codes "D")
      then (delete_line word.1 >>= λ line. Ok (Some line))
      else Err BadKind
