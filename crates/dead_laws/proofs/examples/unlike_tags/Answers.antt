use Rattle.dead_laws.proofs.ThreeAlike.{unlike-tags}
use Rattle.dead_laws.proofs.examples.unlike_tags.Goals as goal

pub returns : goal.returns
returns c = unlike-tags
