use Rattle.fapp_cost.proofs.Meaning.{level_meaning}
use Rattle.fapp_cost.proofs.laws.cost_has_the_least_clear_level.Goals as goal

pub returns : goal.returns
returns c = level_meaning
