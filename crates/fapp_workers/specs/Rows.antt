-- What one call of a worker has published, offered and used.
use Rattle.std.specs.Prelude.{◌≡◌, ℕ, ◌+◌, ◌<◌, ◌≤◌, Bool, true, false, ◌&&◌, not, nat_lt, ◌==◌, List, [], ◌∷◌, ◌++◌, length, slice_get, count_by, All, AllPairs, Option, Some, None}
use Rattle.std.specs.List.{list_any}
use Rattle.fapp_model.specs.search.Jobs.{job_level, job_prefix}
use Rattle.fapp_model.specs.search.Partials.{HasAll}
use Rattle.fapp_plan.specs.Plans.{Split}
use Rattle.search_log.specs.declared.line.LogLine.{LogLine}
use Rattle.search_log.specs.declared.line.Ref.{Ref}
use Rattle.search_log.specs.declared.line.Ref.TheVariants.{Own, Row}
use Rattle.search_log.specs.declared.line.Segment.{Segment}
use Rattle.search_log.specs.Contents.{KnownRow}
use Rattle.search_log.specs.declared.job.Outcome.{Outcome}
use Rattle.search_log.specs.declared.job.Outcome.TheVariants.{Refuted, Moot, Spent}
use Rattle.search_log.specs.LogStates.{LogState}
use Rattle.settle_laws.specs.Levels.{level_code}
use Rattle.settle_laws.specs.Settling.{AreHome}
use Rattle.fapp_workers.specs.declared.job.Done.{Done}
use Rattle.fapp_workers.specs.Jobs.{Held}

-- the place of a line of the worker's own log, where the job is refuted by one
abbrev pub own_place : Ref → Option ℕ
own_place (Own n) = Some n
own_place (Row r) = None

abbrev pub own_line : Outcome → Option ℕ
own_line (Refuted line tag) = own_place line
own_line (Moot seen) = None
own_line Spent = None

-- The line at that place ends the segment, which stands behind those that stood as the job began,
-- and before those that stood as a later job began.
abbrev pub ArePlaced : List Segment → List Done → Type 0
ArePlaced segments [] = Unit {0}
ArePlaced segments (done ∷ more) =
    ((n i : ℕ) (s : Segment) → own_line done.outcome ≡ Some n → slice_get segments i ≡ Some s →
    s.last ≡ n →
    (done.segments ≤ i) × All (λ (later : Done). i < later.segments) more)
    × ArePlaced segments more

-- A segment that stood as the job began ends with a line that has literals of the job's prefix
-- alone, at a tag of at least its target: then the job took no tick.
abbrev pub IsUsed : Split → LogState → Done → Type 0
IsUsed split log done =
    (i : ℕ) (s : Segment) (line : LogLine) → i < done.segments → slice_get log.segments i ≡ Some s →
    slice_get log.lines s.last ≡ Some line →
    HasAll (job_prefix split.instance split.split done.id) line.lits →
    level_code (job_level split.instance done.id + 1) ≤ line.tag.code → done.ticks ≡ 0

-- the first job began with so many segments
abbrev pub BeginsWith : ℕ → List Done → Type 0
BeginsWith n [] = Unit {0}
BeginsWith n (done ∷ more) = done.segments ≡ n

-- Rows: the segments that the log gained are the rows that were published, in their order; the
-- numbers of segments begin with those that stood and never fall; and what was pooled is used.
pub record IsRowsClause (split : Split) (old new : Held) (done : List Done) : Type 0 where
  pub rows : List KnownRow
  pub published : new.shared.published ≡ old.shared.published ++ rows
  pub gained : List Segment
  pub segments : new.log.segments ≡ old.log.segments ++ gained
  pub home : AreHome rows gained
  pub first : BeginsWith (length old.log.segments) done
  pub rises : AllPairs (λ (d e : Done). d.segments ≤ e.segments) done
  pub placed : ArePlaced new.log.segments done
  pub used : All (IsUsed split new.log) done

-- some segment ends with that line
abbrev pub ends_segment : List Segment → ℕ → Bool
ends_segment segments n = list_any (λ (s : Segment). s.last == n) segments

-- the line says something, with at most 8 literals
abbrev pub can_be_row : Option LogLine → Bool
can_be_row None = false
can_be_row (Some line) = nat_lt 0 line.tag.code && not (nat_lt 8 (length line.lits))

abbrev pub is_left_out : LogState → Option ℕ → Bool
is_left_out log None = false
is_left_out log (Some n) = can_be_row (slice_get log.lines n) && not (ends_segment log.segments n)

-- Offers: the jobs that are refuted by a line which can be a row and ends no segment are at most as
-- many as the refusals that were counted, where offers are taken.
abbrev pub IsOffersClause : Held → Held → List Done → Type 0
IsOffersClause old new done = old.shared.takes ≡ true →
    old.shared.refusals + count_by (λ (d : Done). is_left_out new.log (own_line d.outcome)) done
    ≤ new.shared.refusals
