use Rattle.dead_laws.proofs.ThreeAlike.{unlike-sum}
use Rattle.dead_laws.proofs.examples.unlike_sum.Goals as goal

pub returns : goal.returns
returns c = unlike-sum
