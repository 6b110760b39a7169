use Rattle.dead_laws.proofs.CostLaws.{cost-tag}
use Rattle.dead_laws.proofs.tags.costs_are_tags.Goals as goal

pub returns : goal.returns
returns c = λ instance plan v _. cost-tag instance plan v
