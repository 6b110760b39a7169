use Rattle.std.proofs.Common.{◌≡◌, ◌+◌, ◌-◌, ◌^◌, ◌≤◌, length, All}
use Rattle.std.specs.Vec.{vec_capacity}
use Rattle.seat_laws.specs.declared.TheConstants.{WHOLE_SHARE}
use Rattle.nogood_pool.specs.Dealt.{shares_of, IsSplitFrom, KeepsAllButShare}
use Rattle.nogood_pool.specs.Seats.{view_of, IsSeatOf, IsSameSeat}
use Rattle.nogood_pool.proofs.seat.Pool.split_seats.Given as goal

-- the seats so far, and the first one with what is left of the share
abbrev pub invariant-loop : goal.invariant-loop
invariant-loop l = record {
  own : IsSeatOf l.self l.seat;
  same : IsSameSeat l.fn.seat l.seat;
  kept : KeepsAllButShare (view_of l.fn.seat) (view_of l.seat);
  share : (view_of l.seat).share ≡ 2 ^ (32 - l.counter);
  room : (length l.seats.items ≡ l.counter) × (l.holders ≤ vec_capacity l.seats);
  owns : All (IsSeatOf l.self) l.seats.items;
  news : All (λ other. IsSplitFrom (view_of l.fn.seat) (view_of other)) l.seats.items;
  sum : (view_of l.seat).share + shares_of l.seats.items ≡ WHOLE_SHARE;
}
