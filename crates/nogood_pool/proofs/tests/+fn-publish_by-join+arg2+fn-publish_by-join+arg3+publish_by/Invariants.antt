use Rattle.std.proofs.Common.{◌+◌, ◌*◌}
use Rattle.nogood_pool.proofs.tests.+fn-publish_by-join+arg2+fn-publish_by-join+arg3+publish_by.Given as goal

abbrev pub decreases-join+arg2 : goal.decreases-join+arg2
decreases-join+arg2 g l = 2 * l.half + 1

abbrev pub decreases-join+arg3 : goal.decreases-join+arg3
decreases-join+arg3 g l = 2 * l.rest + 1

abbrev pub decreases-publish_by : goal.decreases-publish_by
decreases-publish_by g l = 2 * l.seats
