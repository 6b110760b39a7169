-- What all workers have done.
use Rattle.std.specs.Prelude.{◌≡◌, ℕ, ◌<◌, ◌≤◌, List, ◌++◌, length, map, sum_by, All}
use Rattle.fapp_model.specs.search.Jobs.{job_count}
use Rattle.fapp_plan.specs.Plans.{Split}
use Rattle.search_log.specs.Contents.{KnownRow}
use Rattle.search_log.specs.LogStates.{LogState}
use Rattle.fapp_workers.specs.SharingLaws.{AreGoodLogsOver}
use Rattle.fapp_workers.specs.Gathered.{IsLeastWord}
use Rattle.steal_ring.specs.Jobs.{times}
use Rattle.fapp_workers.specs.declared.closing.Work.{Work}
use Rattle.fapp_workers.specs.Works.{IsJobDone, branches_in, ids_of, ticks_in}

abbrev pub works_logs : List Work → List LogState
works_logs works = map (λ (work : Work). work.log) works

-- how often a job was done, by all workers together
abbrev pub times_done : ℕ → List Work → ℕ
times_done job works = sum_by (λ (work : Work). times job (ids_of work.done.items)) works

-- a worker's log shows its jobs, for the final word, over the rows of all
pub record IsWorkFor (split : Split) (fuel word : ℕ) (rows : List KnownRow)
    (work : Work) : Type 0 where
  pub branches : branches_in work.log.lines ≤ ticks_in work.done.items
  pub each : All (IsJobDone split fuel rows work.log.lines word) work.done.items

-- each job was done once, as a log shows; the logs are good over the rows that they call home and
-- those that were placed; and the word is the least cost that a log keeps
pub record AreSolved (split : Split) (fuel workers : ℕ) (placed : List KnownRow) (works : List Work)
    (word : ℕ) : Type 0 where
  pub rows : List KnownRow
  pub count : length works ≡ workers
  pub once : (job : ℕ) → job < job_count split.instance split.split → times_done job works ≡ 1
  pub good : AreGoodLogsOver split.instance placed rows (works_logs works)
  pub each : All (IsWorkFor split fuel word (placed ++ rows)) works
  pub least : IsLeastWord split.instance (works_logs works) word
