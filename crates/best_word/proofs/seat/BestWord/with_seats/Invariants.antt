use Rattle.std.proofs.Common.{◌≡◌, ◌+◌, ◌-◌, ◌^◌, ◌≤◌, length, All}
use Rattle.std.specs.Vec.{vec_capacity}
use Rattle.seat_laws.specs.declared.TheConstants.{WHOLE_SHARE}
use Rattle.best_word.specs.Seats.{view_of, shares_of, IsSeatOf, IsNewSeat}
use Rattle.best_word.proofs.seat.BestWord.with_seats.Given as goal

-- the seats so far, and the one with what is left of the share
abbrev pub invariant-loop : goal.invariant-loop
invariant-loop l = record {
  own : IsSeatOf l.word l.seat;
  new : IsNewSeat l.levels (view_of l.seat);
  share : (view_of l.seat).share ≡ 2 ^ (32 - l.counter);
  room : (length l.seats.items ≡ l.counter) × (l.holders ≤ vec_capacity l.seats);
  owns : All (IsSeatOf l.word) l.seats.items;
  news : All (λ seat. IsNewSeat l.levels (view_of seat)) l.seats.items;
  sum : (view_of l.seat).share + shares_of l.seats.items ≡ WHOLE_SHARE;
}
