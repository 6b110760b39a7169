use Rattle.std.proofs.Common.{◌≡◌}
use Rattle.nogood_pool.specs.Seats.{view_of, IsSeatOf}
use Rattle.nogood_pool.proofs.tests.publish_often.Given as goal

abbrev pub invariant-loop : goal.invariant-loop
invariant-loop l = IsSeatOf l.pool l.seat × ((view_of l.seat).share ≡ (view_of l.fn.seat).share)
