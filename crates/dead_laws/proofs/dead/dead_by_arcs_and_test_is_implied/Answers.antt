use Rattle.dead_laws.proofs.DeadImplied.{dead-by-arcs-and-test}
use Rattle.dead_laws.proofs.dead.dead_by_arcs_and_test_is_implied.Goals as goal

pub returns : goal.returns
returns c = dead-by-arcs-and-test
