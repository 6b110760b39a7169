-- What workers begin with.
use Rattle.std.specs.Prelude.{◌≡◌, ℕ, ◌+◌, List, length, All}
use Rattle.seat_laws.specs.declared.TheConstants.{WHOLE_SHARE}
use Rattle.fapp_model.specs.search.Jobs.{job_count}
use Rattle.fapp_plan.specs.Plans.{Split}
use Rattle.best_word.specs.Seats.{shares_of as seat_shares}
use Rattle.nogood_pool.specs.Dealt.{shares_of as pool_shares}
use Rattle.nogood_pool.specs.Seats.{view_of as pool_view, IsSeatOf as IsPoolSeatOf}
use Rattle.steal_ring.specs.Hands.{shares_of, IsDealt}
use Rattle.fapp_workers.specs.declared.dealing.Dealt.{Dealt}
use Rattle.nogood.specs.declared.row.Row.{Row}
use Rattle.pool_rows.specs.Copying.{all_known}
use Rattle.search_log.specs.NumberedRows.{numbered_rows}
use Rattle.fapp_workers.specs.FirstRows.{AreTwins}
use Rattle.fapp_workers.specs.WorkerPlaces.{IsFreshPlace, hands_of, pool_seats_of, seats_of}

-- A ring of the plan's jobs, whose hands stand by their numbers; a word and a pool, whose shares
-- are whole; a first seat of the pool that has published some rows, each under its place; and a
-- place for each worker, at which nothing was done.
pub record IsDealtOut (split : Split) (workers : ℕ) (rows : List Row) (dealt : Dealt) : Type 0 where
  pub jobs : dealt.ring.jobs ≡ job_count split.instance split.split
  pub count : length dealt.places.items ≡ workers
  pub stand : All (IsFreshPlace split dealt.ring dealt.word dealt.pool) dealt.places.items
  pub hands : IsDealt (job_count split.instance split.split) (hands_of dealt.places.items)
  pub hand_shares : shares_of (hands_of dealt.places.items) ≡ WHOLE_SHARE
  pub seat_shares : seat_shares (seats_of dealt.places.items) ≡ WHOLE_SHARE
  pub first : IsPoolSeatOf dealt.pool dealt.first
  pub published : all_known (pool_view dealt.first).published ≡ numbered_rows rows
  pub placed : AreTwins (length rows) dealt.placed.items
  pub pool_shares : (pool_view dealt.first).share + pool_shares (pool_seats_of dealt.places.items)
      ≡ WHOLE_SHARE
