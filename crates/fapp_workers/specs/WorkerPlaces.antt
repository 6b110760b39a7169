-- What a worker owns, before and after its work.
use Rattle.std.specs.Prelude.{◌≡◌, ℕ, ◌≤◌, List, [], All, Contains, IfOk, map}
use Rattle.fapp_model.specs.declared.instance.Instance.{Instance}
use Rattle.fapp_model.specs.Levels.{levels_of}
use Rattle.fapp_plan.specs.Plans.{Split}
use Rattle.search_log.specs.Contents.{KnownRow}
use Rattle.search_log.specs.LogStates.{LogState}
use Rattle.settle_laws.specs.Worlds.{IsKeptRight, IsLeastOffered}
use Rattle.best_word.specs.declared.seat.BestSeat.{BestSeat}
use Rattle.best_word.specs.declared.seat.BestWord.{BestWord}
use Rattle.best_word.specs.Seats.{view_of, IsSeatOf}
use Rattle.nogood_pool.specs.declared.seat.Pool.{Pool}
use Rattle.nogood_pool.specs.declared.seat.PoolSeat.{PoolSeat}
use Rattle.nogood_pool.specs.Seats.{view_of as pool_view, IsSeatOf as IsPoolSeatOf}
use Rattle.pool_rows.specs.Copying.{all_known}
use Rattle.fapp_workers.specs.Ends.{IsWorkerEnd, WorkerEnd}
use Rattle.steal_ring.specs.declared.hand.Hand.{Hand}
use Rattle.steal_ring.specs.declared.seat.Ring.{Ring}
use Rattle.steal_ring.specs.Hands.{won_of, IsHandDone as IsAtEnd, IsHandOf, IsSameHand}
use Rattle.fapp_workers.specs.declared.job.Done.{Done}
use Rattle.fapp_workers.specs.declared.place.Place.{Place}
use Rattle.fapp_workers.specs.SharedBounds.{least_offer}
use Rattle.fapp_workers.specs.Works.{IsJobDone, branches_in, ids_of, ticks_in}

-- a seat of the instance's pool that has published nothing
pub record IsUnpublished (instance : Instance) (seat : PoolSeat) : Type 0 where
  pub serves : (pool_view seat).instance ≡ instance
  pub none : (pool_view seat).published ≡ []

-- A seat of the word, a seat of the pool that has published nothing, and a log without lines, which
-- keeps what the seat offered.
pub record IsSeated (split : Split) (word : BestWord) (pool : Pool) (place : Place) : Type 0 where
  pub seat : IsSeatOf word place.seat
  pub levels : (view_of place.seat).levels ≡ levels_of split.instance
  pub pool_seat : IsPoolSeatOf pool place.pool_seat
  pub unpublished : IsUnpublished split.instance place.pool_seat
  pub lines : place.log.lines ≡ []
  pub segments : place.log.segments ≡ []
  pub kept : IsLeastOffered place.log.best (least_offer (view_of place.seat).offers)
  pub right : IsKeptRight split.instance place.log.best

-- no job was done yet
pub record IsFreshPlace (split : Split) (ring : Ring) (word : BestWord) (pool : Pool)
    (place : Place) : Type 0 where
  pub hand : IsHandOf ring place.hand
  pub nothing : won_of place.hand ≡ []
  pub seated : IsSeated split word pool place

-- what a worker leaves, with the rows that it copied
abbrev pub end_by : PoolSeat → LogState → List KnownRow → WorkerEnd
end_by seat log copied =
    record { log = log; copied = copied; published = all_known (pool_view seat).published }

-- The jobs that a hand was given are done, as its log says, for each word that is at most what its
-- seat knows. The log is good over the rows that the worker copied, all of which its seat of the
-- pool saw, and those that it published, which are home in it.
pub record IsWorkOf (split : Split) (fuel : ℕ) (hand : Hand) (seat : BestSeat)
    (pool_seat : PoolSeat) (log : LogState) (done : List Done) : Type 0 where
  pub at_end : IsAtEnd hand
  pub given : won_of hand ≡ ids_of done
  pub copied : List KnownRow
  pub seen : All (Contains (all_known (pool_view pool_seat).seen)) copied
  pub end : IsWorkerEnd split.instance (end_by pool_seat log copied)
  pub right : IsKeptRight split.instance log.best
  pub kept : IsLeastOffered log.best (least_offer (view_of seat).offers)
  pub branches : branches_in log.lines ≤ ticks_in done
  pub each : All (IsJobDone split fuel copied log.lines (view_of seat).least) done

-- what a worker owns came back, and where memory sufficed its jobs are done
pub record IsTended (split : Split) (fuel : ℕ) (ring : Ring) (word : BestWord) (pool : Pool)
    (old new : Place) : Type 0 where
  pub hand : IsHandOf ring new.hand
  pub same_hand : IsSameHand old.hand new.hand
  pub seat : IsSeatOf word new.seat
  pub share : (view_of new.seat).share ≡ (view_of old.seat).share
  pub levels : (view_of new.seat).levels ≡ (view_of old.seat).levels
  pub offered : (n : ℕ) → Contains (view_of old.seat).offers n →
      Contains (view_of new.seat).offers n
  pub pool_seat : IsPoolSeatOf pool new.pool_seat
  pub pool_share : (pool_view new.pool_seat).share ≡ (pool_view old.pool_seat).share
  pub works : IfOk new.done (λ done. IsWorkOf split fuel new.hand new.seat new.pool_seat new.log
      done.items)

abbrev pub hands_of : List Place → List Hand
hands_of places = map (λ (p : Place). p.hand) places

abbrev pub seats_of : List Place → List BestSeat
seats_of places = map (λ (p : Place). p.seat) places

abbrev pub pool_seats_of : List Place → List PoolSeat
pool_seats_of places = map (λ (p : Place). p.pool_seat) places

-- where memory sufficed, the hand was answered None last
abbrev pub IsFinished : Place → Type 0
IsFinished place = IfOk place.done (λ done. IsAtEnd place.hand)
