-- Seats that were split off one seat.
use Rattle.std.specs.Prelude.{◌≡◌, ℕ, List, [], ◌++◌, None, sum_by}
use Rattle.nogood_pool.specs.declared.seat.PoolSeat.{PoolSeat}
use Rattle.nogood_pool.specs.declared.view.PoolView.{PoolView}
use Rattle.nogood_pool.specs.Seats.{view_of}

-- all shares together
abbrev pub shares_of : List PoolSeat → ℕ
shares_of seats = sum_by (λ seat. (view_of seat).share) seats

-- nothing was gained, published or lost but a part of the share
abbrev pub KeepsAllButShare : PoolView → PoolView → Type 0
KeepsAllButShare v w = w ≡ record v { share = w.share }

-- a seat that has published nothing, and was given what another one saw and published
pub record IsSplitFrom (v w : PoolView) : Type 0 where
  pub instance_is : w.instance ≡ v.instance
  pub rows_are : w.rows ≡ v.rows
  pub counter : w.counter ≡ v.counter
  pub writing : w.writing ≡ None
  pub published : w.published ≡ []
  pub seen : w.seen ≡ v.published ++ v.seen
  pub trail : w.trail ≡ []
