-- What all workers did, by job.
use Rattle.std.specs.Prelude.{◌≡◌, ℕ, ◌<◌, ◌≤◌, List, [], ◌++◌, length, slice_index_or, sum, sum_by, All, Some, None}
use Rattle.fapp_model.specs.declared.instance.Instance.{Instance}
use Rattle.fapp_model.specs.Tags.{triple_from}
use Rattle.fapp_model.specs.search.Dead.{Dead}
use Rattle.fapp_model.specs.search.Jobs.{job_count}
use Rattle.fapp_plan.specs.Outcomes.{Placed}
use Rattle.fapp_plan.specs.Plans.{Split}
use Rattle.search_log.specs.declared.line.LogLine.{LogLine}
use Rattle.search_log.specs.Contents.{KnownRow}
use Rattle.search_log.specs.LogStates.{LogState}
use Rattle.search_log.specs.GoodLogs.{AreGoodLogs}
use Rattle.fapp_workers.specs.SharingLaws.{AreGoodLogsOver}
use Rattle.fapp_workers.specs.Gathered.{AreSettled, IsLeastWord}
use Rattle.fapp_workers.specs.Outcomes.{AreTicksOf}
use Rattle.fapp_workers.specs.declared.solve.Gathered.{Gathered}
use Rattle.fapp_workers.specs.Works.{IsAllTaken, branches_in}

-- a Count line's literals are dead at its tag
abbrev pub IsDeadCount : Instance → LogLine → Type 0
IsDeadCount instance line = line.path ≡ None → Dead instance (triple_from line.tag.code) line.lits

-- The logs are good over the rows that they call home, each in one of them, and those that were
-- placed before, none of which is home; a Count line of them cites nothing and is dead at its tag.
-- Each job has one outcome, which a log or such a row shows; the word is the least cost that is
-- kept; no job has more ticks than its fuel or its tries; and the Branch lines of all logs are no
-- more than the ticks of all jobs.
pub record IsGatheredOver (split : Split) (fuel : ℕ) (placed : List KnownRow)
    (gathered : Gathered) : Type 0 where
  pub rows : List KnownRow
  pub logs : AreGoodLogsOver split.instance placed rows gathered.logs.items
  pub dead : All (λ (log : LogState). All (IsDeadCount split.instance) log.lines)
      gathered.logs.items
  pub word : IsLeastWord split.instance gathered.logs.items gathered.word.code
  pub settled : AreSettled split fuel (placed ++ rows) gathered.logs.items gathered.word.code
      gathered.collected
  pub counted : length gathered.ticks.items ≡ job_count split.instance split.split
  pub ticks : (id : ℕ) → id < job_count split.instance split.split →
      AreTicksOf split fuel id (slice_index_or gathered.ticks.items id 0)
  pub branches : sum_by (λ (log : LogState). branches_in log.lines) gathered.logs.items
      ≤ sum gathered.ticks.items

-- the same where no row was placed before
pub record IsGatheredRun (split : Split) (fuel : ℕ) (gathered : Gathered) : Type 0 where
  pub rows : List KnownRow
  pub logs : AreGoodLogs split.instance rows gathered.logs.items
  pub dead : All (λ (log : LogState). All (IsDeadCount split.instance) log.lines)
      gathered.logs.items
  pub word : IsLeastWord split.instance gathered.logs.items gathered.word.code
  pub settled : AreSettled split fuel rows gathered.logs.items gathered.word.code gathered.collected
  pub counted : length gathered.ticks.items ≡ job_count split.instance split.split
  pub ticks : (id : ℕ) → id < job_count split.instance split.split →
      AreTicksOf split fuel id (slice_index_or gathered.ticks.items id 0)
  pub branches : sum_by (λ (log : LogState). branches_in log.lines) gathered.logs.items
      ≤ sum gathered.ticks.items

-- an outcome that was put with a place below the number of workers, and so many ticks
abbrev pub IsPutBelow : ℕ → ℕ → Placed → ℕ → Type 0
IsPutBelow workers fuel None ticks = ⊥
IsPutBelow workers fuel (Some placed) ticks = (placed.0 < workers) × IsAllTaken fuel placed.1 ticks

-- there are as many logs as workers; and each job, also one that is Moot or Spent, was put with the
-- place of a worker's log, and took all its fuel where it is Spent
pub record IsPutByWorkers (split : Split) (workers fuel : ℕ) (gathered : Gathered) : Type 0 where
  pub logs : length gathered.logs.items ≡ workers
  pub each : (id : ℕ) → id < job_count split.instance split.split →
      IsPutBelow workers fuel (slice_index_or gathered.collected id None)
      (slice_index_or gathered.ticks.items id 0)
