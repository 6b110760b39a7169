-- What holds of the logs and outcomes of workers that share rows.
use Rattle.std.specs.Prelude.{◌≡◌, ◌≢◌, ℕ, ◌+◌, ◌<◌, ◌≤◌, List, [], ◌∷◌, ◌++◌, length, slice_get, slice_index_or, All, AllPairs, Contains, Some, None}
use Rattle.fapp_model.specs.declared.instance.Instance.{Instance}
use Rattle.fapp_model.specs.search.Jobs.{job_count, job_level, job_prefix}
use Rattle.search_log.specs.Contents.{KnownRow}
use Rattle.search_log.specs.Segments.{IsGoodLog}
use Rattle.search_log.specs.LogStates.{LogState}
use Rattle.fapp_plan.specs.Outcomes.{Placed}
use Rattle.search_log.specs.declared.piece.Piece.{Piece}
use Rattle.search_log.specs.GoodLogs.{AreGoodLogs, IsBare, IsHomeRow, pieces_of}
use Rattle.fapp_workers.specs.Gathered.{IsPlacedBy}
use Rattle.fapp_plan.specs.Shown.{AreOutcomes}
use Rattle.fapp_workers.specs.Outcomes.{IsJobSettledBy}
use Rattle.fapp_plan.specs.Plans.{Split}
use Rattle.std.specs.Prelude.{◌⊎◌, true}
use Rattle.fapp_model.specs.declared.tag.Tag.{Tag}
use Rattle.search_log.specs.declared.line.Ref.TheVariants.{Own}
use Rattle.search_log.specs.declared.job.Outcome.TheVariants.{Refuted}
use Rattle.settle_laws.specs.Published.{IsShortLine}
use Rattle.std.specs.List.{AllZip}
use Rattle.std.specs.Prelude.{Ok}
use Rattle.std.specs.declared.alloc.AllocError.{AllocError}
use Rattle.fapp_model.specs.declared.literal.Literal.{Literal}
use Rattle.search_log.specs.declared.line.LogLine.{LogLine}
use Rattle.search_log.specs.declared.job.Outcome.{Outcome}
use Rattle.settle_laws.specs.Settling.{Settles}
use Rattle.settle_laws.specs.Worlds.{Gains, IsGoodWorld, World}
use Rattle.settle_laws.specs.Levels.{level_code}
use Rattle.search_log.specs.Bounds.{floor}
use Rattle.fapp_model.specs.search.Partials.{HasAll}
use Rattle.search_log.specs.declared.line.Segment.{Segment}
use Rattle.nogood_pool.specs.declared.view.PoolView.{PoolView}
use Rattle.nogood_pool.specs.Ends.{ArePooled}
use Rattle.pool_rows.specs.Copying.{all_known}
use Rattle.fapp_workers.specs.Ends.{AreClosed, IsSeatEnd, IsWorkerEnd, WorkerEnd, all_published, end_of_world, logs_of}

-- the numbers of the segments of all logs
abbrev pub row_of_piece : Piece → ℕ
row_of_piece p = p.row

-- The logs are good over rows, each of which was placed or is home in one segment of them, not
-- both. No Count line cites.
pub record AreGoodLogsOver (instance : Instance) (placed rows : List KnownRow)
    (logs : List LogState) : Type 0 where
  pub good : All (λ log. IsGoodLog instance (placed ++ rows) log.lines log.segments) logs
  pub home : All (IsHomeRow logs) rows
  pub once : AllPairs (λ p q. p.row ≢ q.row) (pieces_of logs)
  pub apart : All (λ (row : KnownRow). All (λ (p : Piece). p.row ≢ row.number) (pieces_of logs))
      placed
  pub bare : All (λ log. All IsBare log.lines) logs

-- The logs of such workers are good over the rows that were placed and published, each of which is
-- home once.
pub record SharedLogsAreGood : Type 0 where
  pub after : (instance : Instance) (placed : List KnownRow) (ends : List WorkerEnd) →
      All (IsWorkerEnd instance) ends → AreClosed placed ends →
      AreGoodLogsOver instance placed (all_published ends) (logs_of ends)
  pub alone : (instance : Instance) (ends : List WorkerEnd) → All (IsWorkerEnd instance) ends →
      AreClosed [] ends →
      AreGoodLogs instance (all_published ends) (logs_of ends)

-- an outcome is shown by its worker's log, over the rows that the worker copied
abbrev pub IsOutcomeShown : Split → ℕ → List WorkerEnd → ℕ → ℕ → Placed → Type 0
IsOutcomeShown split fuel ends word id None = ⊥
IsOutcomeShown split fuel ends word id (Some placed) =
    (e : WorkerEnd) × (slice_get ends placed.0 ≡ Some e)
    × IsJobSettledBy split fuel id e.copied e.log.lines word placed.1

-- then it is shown over all rows
abbrev pub SharedOutcomesAreShown : Type 0
SharedOutcomesAreShown =
    (split : Split) (fuel : ℕ) (placed : List KnownRow) (ends : List WorkerEnd) (word id : ℕ)
    (outcome : Placed) →
    AreClosed placed ends → IsOutcomeShown split fuel ends word id outcome →
    IsPlacedBy split fuel (placed ++ all_published ends) (logs_of ends) word id outcome

-- A job that was settled leaves a worker what workers leave behind.
abbrev pub WorkGoesOn : Type 0
WorkGoesOn =
    (instance : Instance) (level : ℕ) (literals : List Literal) (old new : World)
    (outcome : Outcome) → IsWorkerEnd instance (end_of_world old) →
    Settles {E = AllocError} instance level literals old new (Ok outcome) →
    IsWorkerEnd instance (end_of_world new)

-- A settled job stays settled where rows are copied, lines added and the word falls.
abbrev pub SettledJobsStay : Type 0
SettledJobsStay =
    (split : Split) (fuel id : ℕ) (rows more : List KnownRow) (lines longer : List LogLine)
    (word lower : ℕ) (outcome : Outcome) →
    All (Contains more) rows → Gains lines longer → lower ≤ word →
    IsJobSettledBy split fuel id rows lines word outcome →
    IsJobSettledBy split fuel id more longer lower outcome

-- Where the pool was closed with all seats, the rows that the first seat and the workers published
-- are all rows, each once.
abbrev pub PooledSeatsClose : Type 0
PooledSeatsClose =
    (first : PoolView) (views : List PoolView) (ends : List WorkerEnd) → ArePooled (first ∷ views) →
    AllZip IsSeatEnd views ends →
    AreClosed (all_known first.published) ends

-- each job has an outcome, which its worker's log shows
pub record AreShown (split : Split) (fuel : ℕ) (ends : List WorkerEnd) (word : ℕ)
    (outcomes : List Placed) : Type 0 where
  pub planned : length outcomes ≡ job_count split.instance split.split
  pub each : (id : ℕ) → id < job_count split.instance split.split →
      IsOutcomeShown split fuel ends word id (slice_index_or outcomes id None)

-- What workers that shared rows leave behind, once the pool was closed with all seats: their logs
-- are good over the rows that they published, each of which is home once, and these show the
-- outcomes of all jobs.
pub record IsSharedRun (split : Split) (rows : List KnownRow) (logs : List LogState)
    (outcomes : List Placed) : Type 0 where
  pub logs_are : AreGoodLogs split.instance rows logs
  pub outcomes_are : AreOutcomes split.instance split.split rows logs outcomes

abbrev pub SharedRunIsSettled : Type 0
SharedRunIsSettled =
    (split : Split) (fuel : ℕ) (first : PoolView) (views : List PoolView) (ends : List WorkerEnd)
    (word : ℕ) (outcomes : List Placed) →
    All (IsWorkerEnd split.instance) ends → AllZip IsSeatEnd views ends → first.published ≡ [] →
    ArePooled (first ∷ views) →
    AreShown split fuel ends word outcomes →
    IsSharedRun split (all_published ends) (logs_of ends) outcomes

-- What a search answers of a job is settled, for each word that is at most what the bound told last
-- and was offered.
abbrev pub JobsAreSettled : Type 0
JobsAreSettled =
    (split : Split) (fuel id word : ℕ) (old new : World) (outcome : Outcome) →
    id < job_count split.instance split.split → old.fuel ≡ fuel → word ≤ floor new.bound →
    Settles {E = AllocError} split.instance (job_level split.instance id)
    (job_prefix split.instance split.split id) old new (Ok outcome) →
    IsJobSettledBy split fuel id new.shared.copied new.log.lines word outcome

-- A segment that stood before, whose line lies within the literals at a tag of at least the level's
-- target, is used: no tick is taken.
abbrev pub SegmentsAreUsed : Type 0
SegmentsAreUsed =
    (instance : Instance) (level : ℕ) (literals : List Literal) (old new : World)
    (outcome : Outcome) (s : Segment) (line : LogLine) → IsGoodWorld instance old →
    Contains old.log.segments s → slice_get old.log.lines s.last ≡ Some line →
    HasAll literals line.lits → level_code (level + 1) ≤ line.tag.code →
    Settles {E = AllocError} instance level literals old new (Ok outcome) → new.fuel ≡ old.fuel

-- Where offers are taken, a line that settles a job and can be a row ends a segment, the only one
-- that was gained, or a refusal was counted.
abbrev pub OffersAreCounted : Type 0
OffersAreCounted =
    (instance : Instance) (level : ℕ) (literals : List Literal) (old new : World) (n : ℕ)
    (tag : Tag) (line : LogLine) → old.shared.takes ≡ true → IsGoodWorld instance old →
    Settles {E = AllocError} instance level literals old new (Ok (Refuted (Own n) tag)) →
    slice_get new.log.lines n ≡ Some line → IsShortLine line →
    ((row : ℕ) × (new.log.segments ≡ old.log.segments ++ record { last = n; row = row } ∷ []))
    ⊎ (All (λ (s : Segment). s.last ≢ n) new.log.segments
    × (old.shared.refusals < new.shared.refusals))
