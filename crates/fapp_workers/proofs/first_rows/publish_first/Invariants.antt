use Rattle.std.proofs.Common.{◌≡◌, ◌≤◌, length, take}
use Rattle.std.specs.Vec.{vec_capacity}
use Rattle.seat_laws.specs.declared.TheConstants.{WHOLE_SHARE}
use Rattle.nogood_pool.specs.Seats.{view_of, IsSeatOf}
use Rattle.pool_rows.specs.Copying.{all_known}
use Rattle.search_log.specs.NumberedRows.{numbered_rows}
use Rattle.fapp_workers.specs.FirstRows.{AreTwins}
use Rattle.fapp_workers.proofs.first_rows.publish_first.Given as goal

-- the rows so far are published, each under its place
abbrev pub invariant-loop-place : goal.invariant-loop-place
invariant-loop-place l = record {
  own : IsSeatOf l.pool l.seat;
  share : (view_of l.seat).share ≡ WHOLE_SHARE;
  counter : (view_of l.seat).counter ≡ l.place;
  published : all_known (view_of l.seat).published ≡ numbered_rows (take l.place l.first);
  placed : AreTwins l.place l.placed.items;
  room : length l.first ≤ vec_capacity l.placed;
}
