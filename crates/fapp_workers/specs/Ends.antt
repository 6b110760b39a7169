-- What workers that share rows leave behind.
use Rattle.std.specs.Prelude.{◌≡◌, ◌≢◌, List, [], ◌∷◌, ◌++◌, map, All, AllPairs, Contains}
use Rattle.fapp_model.specs.declared.instance.Instance.{Instance}
use Rattle.search_log.specs.Contents.{KnownRow}
use Rattle.search_log.specs.Segments.{IsGoodLog}
use Rattle.search_log.specs.LogStates.{LogState}
use Rattle.settle_laws.specs.Settling.{AreHome}
use Rattle.settle_laws.specs.Worlds.{World}
use Rattle.search_log.specs.GoodLogs.{IsBare}
use Rattle.nogood_pool.specs.declared.view.PoolView.{PoolView}
use Rattle.pool_rows.specs.Copying.{all_known}

-- a worker's log, the rows that it copied, and those that it published, in order
pub record WorkerEnd : Type 0 where
  pub log : LogState
  pub copied : List KnownRow
  pub published : List KnownRow

-- The log is good over the rows that the worker knows, its segments are the rows that it published,
-- in order, and its Count lines cite nothing.
pub record IsWorkerEnd (instance : Instance) (e : WorkerEnd) : Type 0 where
  pub good : IsGoodLog instance (e.copied ++ e.published) e.log.lines e.log.segments
  pub home : AreHome e.published e.log.segments
  pub plain : All IsBare e.log.lines

abbrev pub log_of : WorkerEnd → LogState
log_of e = e.log

abbrev pub logs_of : List WorkerEnd → List LogState
logs_of ends = map log_of ends

-- the rows that all of them published, worker by worker
abbrev pub all_published : List WorkerEnd → List KnownRow
all_published [] = []
all_published (e ∷ ends) = e.published ++ all_published ends

abbrev pub end_of_world : World → WorkerEnd
end_of_world w = record { log = w.log; copied = w.shared.copied; published = w.shared.published }

-- what a worker leaves is what its seat knows
pub record IsSeatEnd (v : PoolView) (e : WorkerEnd) : Type 0 where
  pub published : e.published ≡ all_known v.published
  pub copied : All (Contains (all_known v.seen)) e.copied

-- Rows were placed before and published by the workers, no number twice, and whatever a worker
-- copied is one of them.
pub record AreClosed (placed : List KnownRow) (ends : List WorkerEnd) : Type 0 where
  pub distinct : AllPairs (λ a b. a.number ≢ b.number) (placed ++ all_published ends)
  pub copied : All (λ (e : WorkerEnd). All (Contains (placed ++ all_published ends)) e.copied) ends
