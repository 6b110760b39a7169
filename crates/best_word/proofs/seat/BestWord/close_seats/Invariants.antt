use Rattle.std.proofs.Common.{◌≡◌, ◌+◌, All}
use Rattle.seat_laws.specs.declared.TheConstants.{WHOLE_SHARE}
use Rattle.best_word.specs.Seats.{view_of, shares_of, IsSeatOf}
use Rattle.best_word.proofs.Joining.{IsJoined}
use Rattle.best_word.proofs.seat.BestWord.close_seats.Given as goal

-- the seat that was joined and the seats that are left have what all had
abbrev pub invariant-loop-seat : goal.invariant-loop-seat
invariant-loop-seat l = record {
  owns : All (IsSeatOf l.self) l.seats.items;
  first : IsSeatOf l.self l.all;
  shares : (view_of l.all).share + shares_of l.seats.items ≡ WHOLE_SHARE;
  joined : IsJoined l.fn.seats.items l.seats.items (view_of l.all);
}

abbrev pub decreases-loop-seat : goal.decreases-loop-seat
decreases-loop-seat l = goal.left-loop-seat l
