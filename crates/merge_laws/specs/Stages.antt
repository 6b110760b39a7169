-- How a certificate grows by the lines of logs, and the numbers that those lines and the rows get:
-- 0 for what is left out.
use Rattle.std.specs.Prelude.{ℕ, ◌+◌, ◌==◌, if◌then◌else◌, List, [], ◌∷◌, ◌++◌, length, slice_index_or, slice_set, replicate, Option, Some, None}
use Rattle.cert_lines.specs.declared.answer.Line.{Line}
use Rattle.search_log.specs.declared.line.LogLine.{LogLine}
use Rattle.search_log.specs.declared.line.Ref.{Ref}
use Rattle.search_log.specs.declared.line.Ref.TheVariants.{Own, Row}
use Rattle.merge_laws.specs.Written.{written}

-- a certificate so far; for each log the numbers of its lines that are done, and the numbers of the
-- rows
pub record Merged : Type 0 where
  pub out : List Line
  pub own : List (List ℕ)
  pub row : List ℕ

-- placed rows have the numbers of their lines
abbrev pub with_placed : List (ℕ × ℕ) → List ℕ → List ℕ
with_placed [] row = row
with_placed (p ∷ placed) row = with_placed placed (slice_set row p.0 p.1)

-- some lines, before any line of so many logs, with room for so many rows, some of which are placed
abbrev pub start : List Line → List (ℕ × ℕ) → ℕ → ℕ → Merged
start out placed logs rows =
    record { out = out; own = replicate logs []; row = with_placed placed (replicate rows 0) }

-- the numbers of a log's lines
abbrev pub own_of : Merged → ℕ → List ℕ
own_of s log = slice_index_or s.own log []

-- how many lines of a log are done
abbrev pub done_of : Merged → ℕ → ℕ
done_of s log = length (own_of s log)

-- the number of what a line of a log cites
abbrev pub merged_number : Merged → ℕ → Ref → ℕ
merged_number s log (Own n) = slice_index_or (own_of s log) n 0
merged_number s log (Row r) = slice_index_or s.row r 0

-- the next line of a log gets a number
abbrev pub noted : List (List ℕ) → ℕ → ℕ → List (List ℕ)
noted own log n = slice_set own log (slice_index_or own log [] ++ n ∷ [])

abbrev pub left_out : ℕ → Merged → Merged
left_out log s = record { out = s.out; own = noted s.own log 0; row = s.row }

abbrev pub emit_branch : ℕ → LogLine → ℕ → Merged → Merged
emit_branch log line path s = record {
  out = s.out ++ written (merged_number s log) path line ∷ [];
  own = noted s.own log (length s.out + 1);
  row = s.row;
}

abbrev pub emit_by : ℕ → LogLine → Merged → Option ℕ → Merged
emit_by log line s None = left_out log s
emit_by log line s (Some path) =
    if line.tag.code == 0 then left_out log s else emit_branch log line path s

-- the next line of a log is written, or left out: a Count line and one of the tag (0, 0, 0)
abbrev pub emit : ℕ → LogLine → Merged → Merged
emit log line s = emit_by log line s line.path

-- the next lines of a log are
abbrev pub emit_all : ℕ → List LogLine → Merged → Merged
emit_all log [] s = s
emit_all log (line ∷ lines) s = emit_all log lines (emit log line s)

-- a row gets the number of a line of a log
abbrev pub land : ℕ → ℕ → ℕ → Merged → Merged
land row log place s =
    record { out = s.out; own = s.own; row = slice_set s.row row (merged_number s log (Own place)) }
