-- What is known once all workers are done.
use Rattle.std.specs.Prelude.{◌≡◌, ℕ, ◌<◌, List, ◌∷◌, map, Ok, Result}
use Rattle.std.specs.Global.{Vec}
use Rattle.std.specs.declared.alloc.AllocError.{AllocError}
use Rattle.search_log.specs.LogStates.{LogState}
use Rattle.best_word.specs.Seats.{IsLeastOfAll}
use Rattle.nogood_pool.specs.declared.view.PoolView.{PoolView}
use Rattle.nogood_pool.specs.Ends.{ArePooled}
use Rattle.nogood_pool.specs.Seats.{view_of as pool_view}
use Rattle.steal_ring.specs.Hands.{times_given}
use Rattle.fapp_workers.specs.declared.job.Done.{Done}
use Rattle.fapp_workers.specs.declared.place.Place.{Place}
use Rattle.fapp_workers.specs.declared.closing.Work.{Work}
use Rattle.fapp_workers.specs.WorkerPlaces.{hands_of, pool_seats_of, seats_of}

-- the log and the jobs of a place, with what became of them
abbrev pub kept_of : Place → LogState × Result (Vec Done) AllocError
kept_of place = (place.log, place.done)

abbrev pub kept_by : Work → LogState × Result (Vec Done) AllocError
kept_by work = (work.log, Ok work.done)

-- no worker lacked memory; each job was given once; the code is the least that a seat offered, or
-- the top one; and the rows that the seats saw are those that they published, each once
pub record IsClosedRun (jobs : ℕ) (first : PoolView) (places : List Place) (works : List Work)
    (code : ℕ) : Type 0 where
  pub kept : map kept_by works ≡ map kept_of places
  pub once : (job : ℕ) → job < jobs → times_given job (hands_of places) ≡ 1
  pub least : IsLeastOfAll (seats_of places) code
  pub pooled : ArePooled (first ∷ map pool_view (pool_seats_of places))
