use Rattle.fapp_cost.proofs.Meaning.{decided}
use Rattle.fapp_cost.proofs.laws.violations_below_decide.Goals as goal

pub returns : goal.returns
returns c = decided
