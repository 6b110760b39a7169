-- What one call of a worker has done.
use Rattle.std.specs.Prelude.{◌≡◌, ◌⊎◌, ℕ, ◌+◌, ◌<◌, ◌≤◌, List, [], ◌∷◌, ◌++◌, map, sum_by, count_by, is_some, All, AllPairs}
use Rattle.fapp_model.specs.search.Jobs.{job_count}
use Rattle.fapp_plan.specs.Plans.{Split}
use Rattle.search_log.specs.declared.line.LogLine.{LogLine}
use Rattle.search_log.specs.Contents.{KnownRow}
use Rattle.search_log.specs.Segments.{IsGoodLog}
use Rattle.search_log.specs.Bounds.{floor}
use Rattle.search_log.specs.Shares.{known}
use Rattle.settle_laws.specs.Worlds.{Gains, IsKeptRight, IsLeastOffered}
use Rattle.fapp_workers.specs.Outcomes.{AreTicksOf, IsJobSettledBy}
use Rattle.search_log.specs.declared.job.Outcome.{Outcome}
use Rattle.search_log.specs.declared.job.Outcome.TheVariants.{Refuted, Moot, Spent}
use Rattle.steal_ring.specs.declared.hand.Hand.{Hand}
use Rattle.steal_ring.specs.Hands.{won_of, IsHandDone as IsAtEnd}
use Rattle.fapp_workers.specs.declared.job.Done.{Done}
use Rattle.fapp_workers.specs.Jobs.{AreDecided, Held, IsGivenUp}

abbrev pub ids_of : List Done → List ℕ
ids_of done = map (λ (d : Done). d.id) done

abbrev pub starts_of : List Done → List ℕ
starts_of done = map (λ (d : Done). d.start.code) done

abbrev pub ticks_in : List Done → ℕ
ticks_in done = sum_by (λ (d : Done). d.ticks) done

abbrev pub branches_in : List LogLine → ℕ
branches_in lines = count_by (λ (line : LogLine). is_some line.path) lines

-- some numbers stand among others, in their order
abbrev pub IsSubsequence : List ℕ → List ℕ → Type 0
IsSubsequence some [] = some ≡ []
IsSubsequence some (x ∷ all) =
    IsSubsequence some all ⊎ ((rest : List ℕ) × (some ≡ x ∷ rest) × IsSubsequence rest all)

-- Hand: the last `next` was None, and the jobs are those that were given, in order.
pub record IsHandClause (old new : Hand) (done : List Done) : Type 0 where
  pub at_end : IsAtEnd new
  pub given : won_of new ≡ won_of old ++ ids_of done

-- Bound: the starts are among the words that the seat found in this call, in their order, and never
-- rise.
pub record IsBoundClause (old new : List ℕ) (done : List Done) : Type 0 where
  pub gained : List ℕ
  pub found : new ≡ old ++ gained
  pub among : IsSubsequence (starts_of done) gained
  pub falls : AllPairs (λ a b. b ≤ a) (starts_of done)

-- where the fuel did not suffice, all of it was taken
abbrev pub IsAllTaken : ℕ → Outcome → ℕ → Type 0
IsAllTaken fuel (Refuted line tag) ticks = Unit {0}
IsAllTaken fuel (Moot seen) ticks = Unit {0}
IsAllTaken fuel Spent ticks = ticks ≡ fuel

-- a job is settled by what the log and the rows say, for the given word and so (a law) for each
-- lower one, within its fuel and tries
pub record IsJobDone (split : Split) (fuel : ℕ) (rows : List KnownRow) (lines : List LogLine)
    (word : ℕ) (done : Done) : Type 0 where
  pub inside : done.id < job_count split.instance split.split
  pub settled : IsJobSettledBy split fuel done.id rows lines word done.outcome
  pub ticks : AreTicksOf split fuel done.id done.ticks
  pub taken : IsAllTaken fuel done.outcome done.ticks

-- Log: it is good, what it keeps is the least offer and a true cost where it was, it gained no more
-- Branch lines than ticks were taken, and its lines settle the jobs.
pub record IsLogClause (split : Split) (fuel : ℕ) (old new : Held) (done : List Done) : Type 0 where
  pub good : IsGoodLog split.instance (known new.shared) new.log.lines new.log.segments
  pub least : IsLeastOffered new.log.best new.bound.least
  pub right : IsKeptRight split.instance old.log.best → IsKeptRight split.instance new.log.best
  pub lines : Gains old.log.lines new.log.lines
  pub branches : branches_in new.log.lines ≤ branches_in old.log.lines + ticks_in done
  pub each : All (IsJobDone split fuel new.shared.copied new.log.lines (floor new.bound)) done

-- Want of memory ended the call: some jobs were decided, one after another, and the hand was given
-- these and at most one more.
pub record IsCutShort (split : Split) (fuel : ℕ) (was now : List ℕ) (old new : Held) : Type 0 where
  pub done : List Done
  pub mid : Held
  pub decided : AreDecided split fuel old done mid
  pub rest : List ℕ
  pub given : now ≡ was ++ (ids_of done ++ rest)
  pub last : IsGivenUp split fuel rest mid new
