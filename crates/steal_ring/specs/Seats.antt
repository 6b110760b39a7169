-- Words of the contracts: what a seat knows, and which ring it belongs to.
use Rattle.std.specs.Prelude.{◌≡◌, ℕ, ◌≤◌, Contains, sum_by}
use Rattle.seat_laws.specs.Shares.{part_of}
use Rattle.steal_ring.specs.declared.view.RingView.{RingView}
use Rattle.steal_ring.specs.declared.seat.Ring.{Ring}
use Rattle.steal_ring.specs.declared.seat.RingSeat.{RingSeat}
use Rattle.steal_ring.specs.Jobs.{Words, is_spent, times, wins}

abbrev pub view_of : RingSeat → RingView
view_of seat = seat.seat.me.0

-- the seat was made from this ring
abbrev pub IsSeatOf : Ring → RingSeat → Type 0
IsSeatOf ring seat = seat.seat.table_id ≡ ring.table.shared.table_id

-- both seats were made from one ring
abbrev pub IsSameSeat : RingSeat → RingSeat → Type 0
IsSameSeat seat other = other.seat.table_id ≡ seat.seat.table_id

-- no job was won twice, and each job that was found was won
pub record IsWholeRing (v : RingView) : Type 0 where
  pub most : (job : ℕ) → times job v.won ≤ 1
  pub found : (job : ℕ) → Contains v.found job → times job v.won ≡ 1

-- no job was won twice, by all seats together
abbrev pub NoneTwice : Words → Type 0
NoneTwice s = (job : ℕ) → sum_by (part_of is_spent (wins job)) s.views ≤ 1
