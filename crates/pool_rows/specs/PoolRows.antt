-- What a worker's rows come to, and what is known of them since an earlier state.
use Rattle.std.specs.Prelude.{◌≡◌}
use Rattle.search_log.specs.Shares.{SharedState}
use Rattle.nogood_pool.specs.declared.view.PoolView.{PoolView}
use Rattle.nogood_pool.specs.Seats.{IsSameSeat, view_of}
use Rattle.pool_rows.specs.declared.rows.PoolRows.{PoolRows}
use Rattle.pool_rows.specs.Copying.{Grew, state_of}

-- the rows that it copied, those that its seat published, and how many offers were refused
abbrev pub state_of_rows : PoolRows → SharedState
state_of_rows rows = state_of (view_of rows.seat) rows.copies.cites

-- what a seat knows later, where it was neither split nor joined
pub record IsLaterView (v w : PoolView) : Type 0 where
  pub share_is : w.share ≡ v.share
  pub instance_is : w.instance ≡ v.instance
  pub rows_are : w.rows ≡ v.rows
  pub published : Grew v.published w.published
  pub trail : Grew v.trail w.trail

-- rows of the same pool over the same seat, later
pub record AreLater (was rows : PoolRows) : Type 0 where
  pub pool : rows.pool.now ≡ was.pool.now
  pub same : IsSameSeat was.seat rows.seat
  pub view : IsLaterView (view_of was.seat) (view_of rows.seat)
