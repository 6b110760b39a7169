-- What the index of an answer and its instance holds.
use Rattle.std.specs.Prelude.{◌≡◌, ℕ, ◌+◌, ◌<◌, ◌≤◌, Bool, not, ◌&&◌, ◌==◌, nat_lt, nat_le, List, [], length, filter, take, slice_index_or, All}
use Rattle.std.specs.List.{list_any, position_or_len, range_with_len}
use Rattle.fapp_model.specs.declared.instance.Instance.{Instance}
use Rattle.fapp_model.specs.declared.literal.Literal.{Literal}
use Rattle.fapp_model.specs.declared.tag.Tag.{Tag}
use Rattle.fapp_model.specs.Assignments.{count_at}
use Rattle.fapp_model.specs.search.Partials.{literal}
use Rattle.cert_lines.specs.declared.answer.Line.{Line}
use Rattle.cert_lines.specs.acceptance.Deleted.{deletes, is_deleted}
use Rattle.cert_lines.specs.acceptance.Excluded.{no_line, is_only}
use Rattle.cert_check.specs.declared.marks.Marks.{Marks}
use Rattle.cert_check.specs.RecordsNamed.{places_of}

-- the line at a position, from 0
abbrev pub line_on : List Line → ℕ → Line
line_on lines k = slice_index_or lines k no_line

-- the positions of the lines that have this literal alone
unfoldable pub ones_of : List Line → Literal → List ℕ
ones_of lines a = filter (λ k. is_only a (line_on lines k).lits) (range_with_len 0 (length lines))

-- the row of a table
abbrev pub marked_row : {X : Type 0} → List (List X) → ℕ → List X
marked_row table k = slice_index_or table k []

-- where the first line stands that deletes a number, or how many lines there are where none does
unfoldable pub deleter_of : List Line → ℕ → ℕ
deleter_of lines n = position_or_len (λ line. list_any (λ m. m == n) (deletes line.rule)) lines

-- by line, where the first line stands that deletes it
pub record AreDeleters (lines : List Line) (deleters : List ℕ) : Type 0 where
  pub whole : length deleters ≡ length lines
  pub each : (k : ℕ) → k < length lines → slice_index_or deleters k 0 ≡ deleter_of lines (k + 1)

-- the lines of one literal, by path and choice, the lines that delete others, and the records by
-- path
pub record IsMarks (instance : Instance) (lines : List Line) (marks : Marks) : Type 0 where
  pub paths : length marks.ones ≡ length instance.paths
  pub choices : (path : ℕ) → path < length instance.paths →
      length (marked_row marks.ones path) ≡ count_at instance path
  pub ones : (path index : ℕ) → path < length instance.paths → index < count_at instance path →
      marked_row (marked_row marks.ones path) index ≡ ones_of lines (literal path index)
  pub deleters : AreDeleters lines marks.deleters
  pub rows : length marks.places ≡ length instance.paths
  pub places : (path : ℕ) → path < length instance.paths →
      marked_row marks.places path ≡ places_of instance path

-- a position stands before n, has at least the tag, and is deleted by none of the first n lines
abbrev pub is_mark : List Line → ℕ → Tag → ℕ → Bool
is_mark lines n t k =
    nat_lt k n && (nat_le t.code (line_on lines k).tag.code
    && not (is_deleted (take n lines) (k + 1)))

-- one of some positions is such a one
abbrev pub has_mark : List Line → ℕ → Tag → List ℕ → Bool
has_mark lines n t ones = list_any (is_mark lines n t) ones

-- numbers of the first n lines
abbrev pub AreEarlier : ℕ → List ℕ → Type 0
AreEarlier n cites = All (λ k. (0 < k) × (k ≤ n)) cites
