-- What a worker holds, and what it does with one job.
use Rattle.std.specs.Prelude.{◌≡◌, ◌⊎◌, ℕ, ◌-◌, ◌<◌, ◌≤◌, List, [], ◌∷◌, length, Ok, Err}
use Rattle.std.specs.declared.alloc.AllocError.{AllocError}
use Rattle.fapp_model.specs.search.Jobs.{job_count, job_level, job_prefix}
use Rattle.fapp_plan.specs.Plans.{Split}
use Rattle.search_log.specs.Bounds.{BoundState, Tells}
use Rattle.search_log.specs.LogStates.{LogState}
use Rattle.search_log.specs.Shares.{SharedState}
use Rattle.search_log.specs.declared.job.Outcome.{Outcome}
use Rattle.search_log.specs.declared.job.Outcome.TheVariants.{Moot}
use Rattle.settle_laws.specs.Levels.{level_code}
use Rattle.settle_laws.specs.Settling.{Settles}
use Rattle.settle_laws.specs.Worlds.{world}
use Rattle.fapp_workers.specs.declared.job.Done.{Done}

-- the bound, the shared rows and the log
pub record Held : Type 0 where
  pub bound : BoundState
  pub shared : SharedState
  pub log : LogState

abbrev pub held : BoundState → SharedState → LogState → Held
held bound shared log = record { bound = bound; shared = shared; log = log }

-- the job of a number was settled, or tried to be, with so much fuel
pub record IsSearched (split : Split) (fuel id : ℕ) (read : BoundState) (old new : Held)
    (outcome : Outcome) (ticks : ℕ) : Type 0 where
  pub within : ticks ≤ fuel
  pub settles : Settles {E = AllocError} split.instance (job_level split.instance id)
      (job_prefix split.instance split.split id)
      (world fuel read old.shared old.log) (world (fuel - ticks) new.bound new.shared new.log)
      (Ok outcome)

-- the bound that was read leaves nothing to find, so nothing was done
pub record IsSkipped (read : BoundState) (old new : Held) (done : Done) : Type 0 where
  pub outcome : done.outcome ≡ Moot done.start
  pub none : done.ticks ≡ 0
  pub same : new ≡ held read old.shared old.log

-- The bound is read as a job begins. Where that is at most (q, 0, 0) the job is moot, and else it
-- is settled.
pub record Decides (split : Split) (fuel : ℕ) (old new : Held) (done : Done) : Type 0 where
  pub inside : done.id < job_count split.instance split.split
  pub segments : done.segments ≡ length old.log.segments
  pub read : BoundState
  pub tells : Tells old.bound read done.start.code
  pub by : ((done.start.code ≤ level_code (job_level split.instance done.id))
      × IsSkipped read old new done)
      ⊎ ((level_code (job_level split.instance done.id) < done.start.code)
      × IsSearched split fuel done.id read old new done.outcome done.ticks)

-- the search of a job was given up for want of memory: what it leaves is what a search leaves then
pub record IsLacking (split : Split) (fuel id : ℕ) (read : BoundState)
    (old new : Held) : Type 0 where
  pub rest : ℕ
  pub lack : AllocError
  pub settles : Settles split.instance (job_level split.instance id)
      (job_prefix split.instance split.split id)
      (world fuel read old.shared old.log) (world rest new.bound new.shared new.log) (Err lack)

-- a job was begun, its start leaves something to find, and its search was given up
pub record IsBegun (split : Split) (fuel id : ℕ) (old new : Held) : Type 0 where
  pub inside : id < job_count split.instance split.split
  pub start : ℕ
  pub read : BoundState
  pub tells : Tells old.bound read start
  pub above : level_code (job_level split.instance id) < start
  pub lacks : IsLacking split fuel id read old new

-- of at most one job that was given: it was not begun, or its search was given up
abbrev pub IsGivenUp : Split → ℕ → List ℕ → Held → Held → Type 0
IsGivenUp split fuel rest old new =
    ((length rest ≤ 1) × (new ≡ old)) ⊎ ((id : ℕ) × (rest ≡ id ∷ [])
    × IsBegun split fuel id old new)

-- the jobs were decided one after another, and nothing happened between them
abbrev pub AreDecided : Split → ℕ → Held → List Done → Held → Type 0
AreDecided split fuel old [] new = new ≡ old
AreDecided split fuel old (done ∷ more) new =
    (mid : Held) × Decides split fuel old mid done × AreDecided split fuel mid more new
