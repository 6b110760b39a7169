-- What holds of good logs.
use Rattle.std.specs.Prelude.{◌≡◌, ℕ, ◌+◌, ◌<◌, ◌≤◌, List, [], ◌∷◌, ◌++◌, length, take, slice_get, All, Contains, Some}
use Rattle.fapp_model.specs.declared.instance.Instance.{Instance}
use Rattle.fapp_model.specs.Instances.{IsInstance}
use Rattle.fapp_model.specs.Tags.{triple_from}
use Rattle.fapp_model.specs.search.Implied.{Implied}
use Rattle.search_log.specs.declared.line.LogLine.{LogLine}
use Rattle.search_log.specs.declared.line.Segment.{Segment}
use Rattle.search_log.specs.Contents.{Content, KnownRow, content_of, known_row}
use Rattle.search_log.specs.GoodLines.{IsGoodLine}
use Rattle.search_log.specs.Segments.{IsGoodLog, ended}

-- A good log stays good where more rows are known.
abbrev pub GoodWithMoreRows : Type 0
GoodWithMoreRows =
    (instance : Instance) (rows more : List KnownRow) (lines : List LogLine)
    (segments : List Segment) →
    All (Contains more) rows → IsGoodLog instance rows lines segments →
    IsGoodLog instance more lines segments

-- A good log stays good with one more line that is good from its lines.
abbrev pub GoodWithOneMoreLine : Type 0
GoodWithOneMoreLine =
    (instance : Instance) (rows : List KnownRow) (lines : List LogLine) (segments : List Segment)
    (line : LogLine) →
    IsGoodLog instance rows lines segments → IsGoodLine instance rows lines line →
    IsGoodLog instance rows (lines ++ line ∷ []) segments

-- the last line is published, as a row above all that were known
pub record IsPublishedEnd (rows more : List KnownRow) (lines : List LogLine)
    (segments : List Segment) (s : Segment) : Type 0 where
  pub line : LogLine
  pub whole : s.last + 1 ≡ length lines
  pub last : slice_get lines s.last ≡ Some line
  pub behind : ended segments ≤ s.last
  pub above : All (λ other. other.number < s.row) rows
  pub kept : All (Contains more) rows
  pub row : Contains more (known_row s.row (content_of line))

-- A good log stays good where its last line is published.
abbrev pub GoodWithOneMoreSegment : Type 0
GoodWithOneMoreSegment =
    (instance : Instance) (rows more : List KnownRow) (lines : List LogLine)
    (segments : List Segment) (s : Segment) →
    IsGoodLog instance rows lines segments → IsPublishedEnd rows more lines segments s →
    IsGoodLog instance more lines (segments ++ s ∷ [])

-- A good log stays good without lines that stand behind the end of its last segment.
abbrev pub GoodLogIsCut : Type 0
GoodLogIsCut =
    (instance : Instance) (rows : List KnownRow) (lines : List LogLine) (segments : List Segment)
    (n : ℕ) →
    ended segments ≤ n → IsGoodLog instance rows lines segments →
    IsGoodLog instance rows (take n lines) segments

-- what a row or a line says
abbrev pub IsContentImplied : Instance → Content → Type 0
IsContentImplied instance content = Implied instance (triple_from content.tag) content.lits

-- Where the rows are implied, each line of a good log is implied at its tag.
abbrev pub LoggedLinesAreImplied : Type 0
LoggedLinesAreImplied =
    (instance : Instance) (rows : List KnownRow) (lines : List LogLine) (segments : List Segment) →
    IsInstance instance → All (λ row. IsContentImplied instance row.content) rows →
    IsGoodLog instance rows lines segments →
    All (λ line. IsContentImplied instance (content_of line)) lines
