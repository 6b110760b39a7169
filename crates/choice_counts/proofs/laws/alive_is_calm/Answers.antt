use Rattle.choice_counts.proofs.DeadByBound.{alive_is_calm}
use Rattle.choice_counts.proofs.laws.alive_is_calm.Goals as goal

pub returns : goal.returns
returns c = alive_is_calm
