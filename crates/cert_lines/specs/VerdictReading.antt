-- The line of a verdict, by its fields.
use Rattle.std.specs.Prelude.{ℕ, Bool, nat_le, List, codes, Result, Ok, Err, if◌then◌else◌}
use Rattle.std.specs.Str.{bytes_eq}
use Rattle.fapp_text.specs.Reading.{◌>>=◌, allowed}
use Rattle.fapp_model.specs.declared.instance.Instance.{Instance}
use Rattle.fapp_model.specs.declared.triple.Triple.{Triple}
use Rattle.fapp_model.specs.Levels.{levels_of}
use Rattle.cert_lines.specs.declared.answer.Verdict.{Verdict}
use Rattle.cert_lines.specs.declared.answer.Verdict.TheVariants.{Best, NoneFeasible, Open}
use Rattle.cert_lines.specs.declared.fault.CertCause.{CertCause}
use Rattle.cert_lines.specs.declared.fault.CertCause.TheVariants.{BadKind, BadNumber, BadTag}
use Rattle.cert_lines.specs.FieldReading.{field_at, ended, number_at, triple_at, tag_at}
use Rattle.cert_lines.specs.ListReading.{literal_at, list_at}
use Rattle.cert_lines.specs.WellFormed.{is_cost, is_shown}

-- a word that must stand there
unfoldable pub word_at : List ℕ → List (List ℕ) → Result (List (List ℕ)) CertCause
word_at word fields = do
  field ← field_at fields
  allowed (bytes_eq field.0 word) BadKind field.1

-- three numbers that pass a test
unfoldable pub judged : (Triple → Bool) → List (List ℕ) → Result (Triple × List (List ℕ)) CertCause
judged test fields = do
  t ← triple_at fields
  allowed (test t.0) BadTag t

unfoldable pub best_line : Instance → List (List ℕ) → Result Verdict CertCause
best_line instance fields = do
  t ← judged (is_cost (levels_of instance)) fields
  end ← ended t.1
  Ok (Best t.0)

unfoldable pub level_at : Instance → List (List ℕ) → Result (ℕ × List (List ℕ)) CertCause
level_at instance fields = do
  level ← number_at fields
  allowed (nat_le level.0 (levels_of instance)) BadNumber level

unfoldable pub open_line : Instance → List (List ℕ) → Result Verdict CertCause
open_line instance fields = do
  best ← judged (is_shown (levels_of instance)) fields
  bound ← word_at (codes "LOWER") best.1
  lower ← tag_at instance bound
  job ← word_at (codes "AT") lower.1
  level ← level_at instance job
  prefix ← list_at (literal_at instance) level.1
  end ← ended prefix.1
  Ok (Open best.0 lower.0 level.0 prefix.0)

unfoldable pub verdict_line : Instance → List (List ℕ) → Result Verdict CertCause
verdict_line instance fields = do
  word ← field_at fields
  if bytes_eq word.0 (codes "BEST") then best_line instance word.1
      else if bytes_eq word.0 (codes "NONE") then (ended word.1 >>= λ end. Ok NoneFeasible)
      else if bytes_eq word.0 (codes "OPEN") then open_line instance word.1 else Err BadKind
