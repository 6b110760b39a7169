use Rattle.std.proofs.Common.{◌≡◌, ◌+◌, length, All}
use Rattle.fapp_model.specs.Levels.{levels_of}
use Rattle.best_word.specs.Seats.{view_of, shares_of, IsNewSeat, IsSeatOf}
use Rattle.nogood_pool.specs.Dealt.{shares_of as pool_shares}
use Rattle.nogood_pool.specs.Seats.{IsSeatOf as IsPoolSeatOf}
use Rattle.fapp_workers.specs.Begun.{IsFresh}
use Rattle.fapp_workers.specs.WorkerPlaces.{IsSeated, IsUnpublished, hands_of, pool_seats_of, seats_of}
use Rattle.fapp_workers.proofs.dealing.place_all.Given as goal

-- the places so far, and the seats that are left
abbrev pub invariant-loop-hand : goal.invariant-loop-hand
invariant-loop-hand l = record {
  hands : hands_of l.places.items ≡ l.yielded;
  fresh : All (IsFresh (levels_of l.plan.instance)) l.places.items;
  seated : All (IsSeated l.plan l.word l.pool) l.places.items;
  count : length l.seats.items + length l.yielded ≡ length l.fn.hands.items;
  pool_count : length l.pool_seats.items + length l.yielded ≡ length l.fn.hands.items;
  own : All (IsSeatOf l.word) l.seats.items;
  new : All (λ seat. IsNewSeat (levels_of l.plan.instance) (view_of seat)) l.seats.items;
  pool_own : All (IsPoolSeatOf l.pool) l.pool_seats.items;
  pool_new : All (IsUnpublished l.plan.instance) l.pool_seats.items;
  shares : shares_of l.seats.items + shares_of (seats_of l.places.items) ≡ shares_of l.fn.seats.items;
  pool_shares : pool_shares l.pool_seats.items + pool_shares (pool_seats_of l.places.items) ≡ pool_shares l.fn.pool_seats.items;
}
