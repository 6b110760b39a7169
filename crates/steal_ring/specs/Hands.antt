-- Words of the contracts of hands.
use Rattle.std.specs.Prelude.{◌≡◌, ◌⊎◌, ℕ, ◌<◌, ◌%◌, List, length, slice_index_or, All, sum_by}
use Rattle.steal_ring.specs.declared.hand.Hand.{Hand}
use Rattle.steal_ring.specs.declared.seat.Ring.{Ring}
use Rattle.steal_ring.specs.Seats.{view_of, IsSeatOf}
use Rattle.steal_ring.specs.Jobs.{times}

-- the jobs that a hand was given, in order
abbrev pub won_of : Hand → List ℕ
won_of hand = (view_of hand.seat).won

-- the jobs whose words it swapped, in order
abbrev pub found_of : Hand → List ℕ
found_of hand = (view_of hand.seat).found

abbrev pub share_of_hand : Hand → ℕ
share_of_hand hand = (view_of hand.seat).share

-- the hand was made from this ring
pub record IsHandOf (ring : Ring) (hand : Hand) : Type 0 where
  pub table : IsSeatOf ring hand.seat
  pub all : hand.jobs ≡ ring.jobs

-- neither the number nor the share changes
abbrev pub IsSameHand : Hand → Hand → Type 0
IsSameHand old new =
    (new.number ≡ old.number) × (new.neighbour ≡ old.neighbour) × (new.workers ≡ old.workers)
    × (share_of_hand new ≡ share_of_hand old)

-- the job stands in the hand's list or in its neighbour's
abbrev pub IsListed : Hand → ℕ → Type 0
IsListed hand job = (job % hand.workers ≡ hand.number) ⊎ (job % hand.workers ≡ hand.neighbour)

-- each job of both lists was given to this hand, or was found taken by it
abbrev pub IsHandDone : Hand → Type 0
IsHandDone hand = (job : ℕ) → job < hand.jobs → IsListed hand job → 0 < times job (found_of hand)

-- as many hands as workers, by their number
pub record IsDealt (jobs : ℕ) (hands : List Hand) : Type 0 where
  pub numbers : All (λ hand. (hand.workers ≡ length hands) × (hand.jobs ≡ jobs)) hands
  pub places : (i : ℕ) (d : Hand) → i < length hands → (slice_index_or hands i d).number ≡ i

-- all shares together
abbrev pub shares_of : List Hand → ℕ
shares_of hands = sum_by share_of_hand hands

-- how often a job was given, by all hands together
abbrev pub times_given : ℕ → List Hand → ℕ
times_given job hands = sum_by (λ hand. times job (won_of hand)) hands
