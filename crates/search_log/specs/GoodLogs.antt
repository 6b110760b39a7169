-- Logs of several workers: each is good over the rows that they call home.
use Rattle.std.specs.Prelude.{ℕ, List, [], slice_index_or, ◌≡◌, ◌≢◌, ◌+◌, ◌∷◌, ◌++◌, map, slice_get, All, AllPairs, Contains, Some, None}
use Rattle.search_log.specs.declared.line.LogLine.{LogLine}
use Rattle.fapp_model.specs.declared.instance.Instance.{Instance}
use Rattle.search_log.specs.declared.line.Segment.{Segment}
use Rattle.search_log.specs.Contents.{KnownRow, content_of, known_row}
use Rattle.search_log.specs.Segments.{IsGoodLog}
use Rattle.search_log.specs.LogStates.{LogState}
use Rattle.search_log.specs.declared.piece.Piece.{Piece}

-- the lines of a log
abbrev pub lines_of : List (List LogLine) → ℕ → List LogLine
lines_of logs log = slice_index_or logs log []

-- the lines of each log
abbrev pub all_lines : List LogState → List (List LogLine)
all_lines logs = map (λ log. log.lines) logs

-- a segment of the log of some number
abbrev pub piece_of : ℕ → Segment → Piece
piece_of log s = record { row = s.row; log = log; last = s.last }

-- the segments of all logs, which have numbers from one on
abbrev pub pieces_from : ℕ → List LogState → List Piece
pieces_from log [] = []
pieces_from log (state ∷ logs) = map (piece_of log) state.segments ++ pieces_from (log + 1) logs

abbrev pub pieces_of : List LogState → List Piece
pieces_of logs = pieces_from 0 logs

-- a row says what the last line of some segment says
pub record IsHomeRow (logs : List LogState) (row : KnownRow) : Type 0 where
  pub piece : Piece
  pub member : Contains (pieces_of logs) piece
  pub line : LogLine
  pub last : slice_get (lines_of (all_lines logs) piece.log) piece.last ≡ Some line
  pub is : row ≡ known_row piece.row (content_of line)

-- a Count line has no references
abbrev pub IsBare : LogLine → Type 0
IsBare line = line.path ≡ None → line.refs ≡ []

-- The logs are good over rows, each of which is home in one segment of them. No Count line cites.
pub record AreGoodLogs (instance : Instance) (rows : List KnownRow)
    (logs : List LogState) : Type 0 where
  pub good : All (λ log. IsGoodLog instance rows log.lines log.segments) logs
  pub home : All (IsHomeRow logs) rows
  pub once : AllPairs (λ p q. p.row ≢ q.row) (pieces_of logs)
  pub bare : All (λ log. All IsBare log.lines) logs
