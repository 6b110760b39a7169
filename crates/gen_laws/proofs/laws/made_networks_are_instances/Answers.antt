use Rattle.gen_laws.proofs.Networks.{made_instances}
use Rattle.gen_laws.proofs.laws.made_networks_are_instances.Goals as goal

pub returns : goal.returns
returns c = made_instances
