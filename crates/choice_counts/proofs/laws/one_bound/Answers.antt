use Rattle.choice_counts.proofs.Calm.{one_bound}
use Rattle.choice_counts.proofs.laws.one_bound.Goals as goal

pub returns : goal.returns
returns c = one_bound
