use Rattle.std.proofs.Common.{◌≡◌, ℕ, All, sum_by, ◌+◌}
use Rattle.seat_laws.specs.declared.TheConstants.{WHOLE_SHARE}
use Rattle.steal_ring.specs.Jobs.{times}
use Rattle.steal_ring.specs.Seats.{view_of, IsSeatOf}
use Rattle.steal_ring.specs.Hands.{won_of, found_of, IsHandOf}
use Rattle.steal_ring.proofs.seat.Ring.close.Given as goal

-- the seat that was joined and the hands that are left have what all had
abbrev pub invariant-loop-hand : goal.invariant-loop-hand
invariant-loop-hand l = record {
  own : All (IsHandOf l.self) l.hands.items;
  first : IsSeatOf l.self l.all;
  shares : (view_of l.all).share + sum_by (λ h. (view_of h.seat).share) l.hands.items ≡ WHOLE_SHARE;
  found : (job : ℕ) → times job (view_of l.all).found + sum_by (λ h. times job (found_of h)) l.hands.items ≡ sum_by (λ h. times job (found_of h)) l.fn.hands.items;
  won : (job : ℕ) → times job (view_of l.all).won + sum_by (λ h. times job (won_of h)) l.hands.items ≡ sum_by (λ h. times job (won_of h)) l.fn.hands.items;
}

abbrev pub decreases-loop-hand : goal.decreases-loop-hand
decreases-loop-hand l = goal.left-loop-hand l
