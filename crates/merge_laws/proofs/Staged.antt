-- A certificate that grows, with the fates of what is done.
use Rattle.std.proofs.Common.{◌≡◌, ◌⊎◌, ℕ, ◌<◌, List, length, Contains, All, Some}
use Rattle.std.specs.List.{slice_get}
use Rattle.fapp_model.specs.declared.instance.Instance.{Instance}
use Rattle.fapp_model.specs.Instances.{IsNumber}
use Rattle.cert_lines.specs.WellFormed.{IsLine}
use Rattle.accept_laws.specs.Lines.{AreGood}
use Rattle.search_log.specs.declared.line.LogLine.{LogLine}
use Rattle.search_log.specs.declared.line.Ref.TheVariants.{Own, Row}
use Rattle.search_log.specs.Contents.{KnownRow, content_of}
use Rattle.merge_laws.specs.Fates.{AreMarked, IsFate}
use Rattle.merge_laws.specs.Stages.{Merged, done_of, merged_number}
use Rattle.search_log.specs.GoodLogs.{lines_of}

-- rows below a number are done, and those that old lines say
abbrev pub IsDoneRow : List ℕ → ℕ → ℕ → Type 0
IsDoneRow placed pooled r = (r < pooled) ⊎ Contains placed r

-- what is done has its fate: so many lines of each log, and the rows below a number
pub record IsStage (instance : Instance) (rows : List KnownRow) (logs : List (List LogLine)) (placed : List ℕ) (pooled : ℕ) (s : Merged) : Type 0 where
  pub good : AreGood instance s.out
  pub formed : IsNumber (length s.out) → All (IsLine instance) s.out
  pub marked : AreMarked instance s.out
  pub logs_are : length s.own ≡ length logs
  pub room : All (λ row. row.number < length s.row) rows
  pub own : (log place : ℕ) (line : LogLine) → place < done_of s log → slice_get (lines_of logs log) place ≡ Some line →
      IsFate instance s.out (content_of line) (merged_number s log (Own place))
  pub row : (row : KnownRow) → Contains rows row → IsDoneRow placed pooled row.number →
      IsFate instance s.out row.content (merged_number s 0 (Row row.number))
