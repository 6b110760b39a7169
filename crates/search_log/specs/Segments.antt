-- Segments of a log: stretches of lines, each of which ends with a line that was published as a
-- row.
use Rattle.std.specs.Prelude.{◌≡◌, ℕ, ◌+◌, ◌<◌, ◌≤◌, List, [], ◌∷◌, slice_get, All, AllPairs, Contains, Some}
use Rattle.fapp_model.specs.declared.instance.Instance.{Instance}
use Rattle.search_log.specs.declared.line.ChoiceRef.{ChoiceRef}
use Rattle.search_log.specs.declared.line.LogLine.{LogLine}
use Rattle.search_log.specs.declared.line.Ref.TheVariants.{Row}
use Rattle.search_log.specs.declared.line.Segment.{Segment}
use Rattle.search_log.specs.Contents.{KnownRow, content_of, known_row}
use Rattle.search_log.specs.GoodLines.{AreGoodLines}

-- how many lines stand up to the end of the last segment
abbrev pub ended : List Segment → ℕ
ended [] = 0
ended (s ∷ []) = s.last + 1
ended (s ∷ t ∷ more) = ended (t ∷ more)

-- the segment's last line has the literals and the tag of its row
pub record EndsAsRow (rows : List KnownRow) (lines : List LogLine) (s : Segment) : Type 0 where
  pub line : LogLine
  pub last : slice_get lines s.last ≡ Some line
  pub row : Contains rows (known_row s.row (content_of line))

-- each row that a line up to the segment's end cites has a lower number than the segment's row
abbrev pub CitesLowerRows : List LogLine → Segment → Type 0
CitesLowerRows lines s =
    (n : ℕ) (line : LogLine) (ref : ChoiceRef) (r : ℕ) → n ≤ s.last →
    slice_get lines n ≡ Some line →
    Contains line.refs ref → ref.line ≡ Row r → r < s.row

-- the segments follow one another, each ends with its row, and rows are drawn after what they rest
-- on
pub record AreSegments (rows : List KnownRow) (lines : List LogLine)
    (segments : List Segment) : Type 0 where
  pub ends : All (EndsAsRow rows lines) segments
  pub ascending : AllPairs (λ s t. (s.last < t.last) × (s.row < t.row)) segments
  pub lower : All (CitesLowerRows lines) segments

-- Good log: each line is good from those before it, and the segments are in order.
pub record IsGoodLog (instance : Instance) (rows : List KnownRow) (lines : List LogLine)
    (segments : List Segment) : Type 0 where
  pub good_lines : AreGoodLines instance rows lines
  pub in_order : AreSegments rows lines segments
