-- Logs that may be merged: each is good over the rows that they call home.
use Rattle.std.specs.Prelude.{◌≢◌, ◌⊎◌, ℕ, ◌≤◌, List, All, AllPairs, Contains}
use Rattle.std.specs.List.Sorted.{IsPermutation}
use Rattle.fapp_model.specs.declared.instance.Instance.{Instance}
use Rattle.cert_lines.specs.declared.answer.Line.{Line}
use Rattle.search_log.specs.Contents.{KnownRow}
use Rattle.search_log.specs.Segments.{IsGoodLog}
use Rattle.search_log.specs.LogStates.{LogState}
use Rattle.search_log.specs.declared.piece.Piece.{Piece}
use Rattle.merge_laws.specs.Fates.{StandsAt}
use Rattle.search_log.specs.GoodLogs.{pieces_of, IsHomeRow, IsBare}

-- a row that is placed at an old line, which has its literals and its tag
pub record IsPlacedIn (old : List Line) (placed : List (ℕ × ℕ)) (row : KnownRow) : Type 0 where
  pub number : ℕ
  pub listed : Contains placed (row.number, number)
  pub stands : StandsAt old row.content number

-- The logs are good over rows, each of which is home in one segment of them or placed at one old
-- line, and no row is both. No Count line cites.
pub record AreGoodLogsAfter (instance : Instance) (old : List Line) (placed : List (ℕ × ℕ))
    (rows : List KnownRow) (logs : List LogState) : Type 0 where
  pub good : All (λ log. IsGoodLog instance rows log.lines log.segments) logs
  pub home : All (λ row. IsHomeRow logs row ⊎ IsPlacedIn old placed row) rows
  pub once : AllPairs (λ p q. p.row ≢ q.row) (pieces_of logs)
  pub placed_once : AllPairs (λ p q. p.0 ≢ q.0) placed
  pub apart : All (λ p. All (λ q. p.0 ≢ q.row) (pieces_of logs)) placed
  pub bare : All (λ log. All IsBare log.lines) logs

-- some pieces are all segments of the logs, by their rows
pub record AreByRow (logs : List LogState) (pieces : List Piece) : Type 0 where
  pub same : IsPermutation (pieces_of logs) pieces
  pub ordered : AllPairs (λ p q. p.row ≤ q.row) pieces
