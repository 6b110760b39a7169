-- Rows that say what old lines say, and their numbers.
use Rattle.std.specs.Prelude.{◌≡◌, ℕ, ◌<◌, List, length, slice_index_or}
use Rattle.cert_lines.specs.declared.answer.Line.{Line}
use Rattle.search_log.specs.Contents.{Content}
use Rattle.merge_laws.specs.Fates.{StandsAt}
use Rattle.nogood.specs.declared.row.Row.{Row}
use Rattle.search_log.specs.Shares.{row_content}

abbrev pub says : Line → Content
says line = record { tag = line.tag.code; lits = line.lits }

-- the row says, above (0, 0, 0), what the old line of that number says
pub record IsSaid (old : List Line) (number : ℕ) (row : Row) : Type 0 where
  pub stands : StandsAt old (row_content row) number
  pub above : 0 < row.tag.code

-- so does each row what the line of its number says
pub record AreSaid (old : List Line) (numbers : List ℕ) (rows : List Row) : Type 0 where
  pub count : length rows ≡ length numbers
  pub each : (i n : ℕ) (row : Row) → i < length numbers →
      IsSaid old (slice_index_or numbers i n) (slice_index_or rows i row)

-- each place below their count with its number
pub record ArePaired (numbers : List ℕ) (pairs : List (ℕ × ℕ)) : Type 0 where
  pub count : length pairs ≡ length numbers
  pub each : (i n : ℕ) (pair : ℕ × ℕ) → i < length numbers →
      slice_index_or pairs i pair ≡ (i, slice_index_or numbers i n)
