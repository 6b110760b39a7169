use Rattle.std.proofs.Common.{◌≡◌, ◌+◌, All}
use Rattle.seat_laws.specs.declared.TheConstants.{WHOLE_SHARE}
use Rattle.nogood_pool.specs.Dealt.{shares_of}
use Rattle.nogood_pool.specs.Seats.{view_of, IsSeatOf}
use Rattle.nogood_pool.proofs.Uniting.{IsTail}
use Rattle.nogood_pool.proofs.seat.Pool.close_seats.Given as goal

-- the seats that are left, and one that has what those behind them had
abbrev pub invariant-loop-seat : goal.invariant-loop-seat
invariant-loop-seat l = record {
  owns : All (IsSeatOf l.self) l.seats.items;
  own : IsSeatOf l.self l.later;
  shares : (view_of l.fn.first).share + ((view_of l.later).share + shares_of l.seats.items) ≡ WHOLE_SHARE;
  tail : IsTail l.fn.seats.items l.seats.items (view_of l.later);
}

abbrev pub decreases-loop-seat : goal.decreases-loop-seat
decreases-loop-seat l = goal.left-loop-seat l
