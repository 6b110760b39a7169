use Rattle.choice_counts.proofs.DeadByBound.{dead_is_over_bound}
use Rattle.choice_counts.proofs.laws.dead_is_over_bound.Goals as goal

pub returns : goal.returns
returns c = dead_is_over_bound
