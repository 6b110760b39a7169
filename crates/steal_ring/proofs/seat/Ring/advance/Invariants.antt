use Rattle.std.proofs.Common.{◌≡◌, ◌≤◌}
use Rattle.steal_ring.specs.Lists.{IsSwapped}
use Rattle.steal_ring.specs.Seats.{view_of, IsSameSeat}
use Rattle.steal_ring.proofs.seat.Ring.advance.Given as goal

-- the jobs of the list up to here were swapped, and none was won
abbrev pub invariant-loop-job : goal.invariant-loop-job
invariant-loop-job l = record {
  same : IsSameSeat l.fn.seat l.seat;
  share : (view_of l.seat).share ≡ (view_of l.fn.seat).share;
  from : l.from ≤ l.job;
  swapped : IsSwapped l.workers l.list l.from l.job (view_of l.fn.seat).found (view_of l.seat).found;
  won : (view_of l.seat).won ≡ (view_of l.fn.seat).won;
}
