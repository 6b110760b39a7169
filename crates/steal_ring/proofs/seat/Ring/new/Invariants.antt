use Rattle.std.proofs.Common.{◌≡◌, ℕ, ◌+◌, ◌-◌, ◌^◌, ◌<◌, ◌≤◌, [], length, All, sum_by, slice_index_or}
use Rattle.std.specs.Vec.{vec_capacity}
use Rattle.steal_ring.specs.declared.hand.Hand.{Hand}
use Rattle.seat_laws.specs.declared.TheConstants.{WHOLE_SHARE}
use Rattle.steal_ring.specs.Lists.{neighbour_of}
use Rattle.steal_ring.specs.Seats.{view_of, IsSeatOf}
use Rattle.steal_ring.specs.Hands.{found_of, won_of, share_of_hand, IsHandOf}
use Rattle.steal_ring.proofs.seat.Ring.new.Given as goal

-- the hands so far, and the seat with what is left of the share
abbrev pub invariant-loop-number : goal.invariant-loop-number
invariant-loop-number l = record {
  own : IsSeatOf l.ring l.seat;
  jobs : l.ring.jobs ≡ l.jobs;
  clean : ((view_of l.seat).found ≡ []) × ((view_of l.seat).won ≡ []);
  share : (view_of l.seat).share ≡ 2 ^ (32 - l.number);
  room : (length l.hands.items ≡ l.number) × (l.workers ≤ vec_capacity l.hands);
  fresh : All (λ h. (won_of h ≡ []) × (found_of h ≡ [])) l.hands.items;
  hands : All (IsHandOf l.ring) l.hands.items;
  dealt : All (λ h. (h.workers ≡ l.workers) × (h.jobs ≡ l.jobs)) l.hands.items;
  places : (i : ℕ) (d : Hand) → i < length l.hands.items → (slice_index_or l.hands.items i d).number ≡ i;
  neighbours : All (λ h. h.neighbour ≡ neighbour_of h.workers h.number) l.hands.items;
  parts : All (λ h. 1 ≤ share_of_hand h) l.hands.items;
  sum : (view_of l.seat).share + sum_by (λ h. (view_of h.seat).share) l.hands.items ≡ WHOLE_SHARE;
}
