use Rattle.dead_laws.proofs.ThreeAlike.{each-three}
use Rattle.dead_laws.proofs.examples.each_three_die.Goals as goal

pub returns : goal.returns
returns c = each-three
