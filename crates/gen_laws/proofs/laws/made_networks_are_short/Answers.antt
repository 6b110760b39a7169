use Rattle.gen_laws.proofs.Networks.{made_short}
use Rattle.gen_laws.proofs.laws.made_networks_are_short.Goals as goal

pub returns : goal.returns
returns c = made_short
