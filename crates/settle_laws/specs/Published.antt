-- What becomes of the last line of a log that is offered.
use Rattle.std.specs.Prelude.{◌≡◌, ◌⊎◌, ℕ, ◌<◌, ◌≤◌, true, List, [], ◌∷◌, ◌++◌, length, slice_get, All, Some, Result, Ok, Err}
use Rattle.std.specs.Result.{IsOk}
use Rattle.fapp_model.specs.declared.instance.Instance.{Instance}
use Rattle.fapp_model.specs.InstanceTags.{IsTagFor}
use Rattle.search_log.specs.declared.line.LogLine.{LogLine}
use Rattle.search_log.specs.Contents.{content_of, known_row}
use Rattle.search_log.specs.LogStates.{LogState}
use Rattle.search_log.specs.Logs.{with_segment}
use Rattle.search_log.specs.Shares.{IsServedContent, SharedState, known}

-- a line says something that can be a row
pub record IsShortLine (line : LogLine) : Type 0 where
  pub says : 0 < line.tag.code
  pub few : length line.lits ≤ 8

-- the line at a place is one of the instance, and implied at its tag
abbrev pub IsOfferable : Instance → List LogLine → ℕ → Type 0
IsOfferable instance lines place = (line : LogLine) → slice_get lines place ≡ Some line →
    IsTagFor instance line.tag × IsServedContent instance (content_of line)

-- a segment ends with the last line, or the log is as it was for want of memory
abbrev pub EndsBy : {T E : Type 0} → LogState → LogState → ℕ → Result T E → Type 0
EndsBy log after row (Ok _) = after ≡ with_segment log row
EndsBy log after row (Err _) = after ≡ log

-- it can be a row, and got one above all others, which ends a segment where there was memory
pub record GotRow {T E : Type 0} (old new : SharedState) (log after : LogState) (place : ℕ)
    (result : Result T E) : Type 0 where
  pub row : ℕ
  pub line : LogLine
  pub last : slice_get log.lines place ≡ Some line
  pub short : IsShortLine line
  pub published : new.published ≡ old.published ++ known_row row (content_of line) ∷ []
  pub above : All (λ other. other.number < row) (known old)
  pub ends : EndsBy log after row result

-- it got none, and where offers are taken a refusal was counted for a line that can be a row
pub record GotNone {T E : Type 0} (old new : SharedState) (log after : LogState) (place : ℕ)
    (result : Result T E) : Type 0 where
  pub published : new.published ≡ old.published
  pub log_same : after ≡ log
  pub went : IsOk result
  pub refused : old.takes ≡ true → (line : LogLine) → slice_get log.lines place ≡ Some line →
      IsShortLine line → old.refusals < new.refusals

pub record IsPublished {T E : Type 0} (old new : SharedState) (log after : LogState) (place : ℕ)
    (result : Result T E) : Type 0 where
  pub copied : new.copied ≡ old.copied
  pub takes : new.takes ≡ old.takes
  pub refusals : old.refusals ≤ new.refusals
  pub got : GotRow old new log after place result ⊎ GotNone old new log after place result
