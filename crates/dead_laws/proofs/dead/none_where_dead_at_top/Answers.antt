use Rattle.dead_laws.proofs.DeadImplied.{none-feasible}
use Rattle.dead_laws.proofs.dead.none_where_dead_at_top.Goals as goal

pub returns : goal.returns
returns c = none-feasible
