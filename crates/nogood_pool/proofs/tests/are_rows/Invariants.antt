use Rattle.std.proofs.Common.{◌≡◌, length}
use Rattle.nogood_pool.specs.Seats.{IsSeatOf}
use Rattle.nogood_pool.proofs.tests.are_rows.Given as goal

abbrev pub invariant-loop-row : goal.invariant-loop-row
invariant-loop-row l = IsSeatOf l.pool l.seat × (length l.once.items ≡ l.count)
