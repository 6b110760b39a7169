use Rattle.dead_laws.proofs.ImpliedLemmas.{none-at-top}
use Rattle.dead_laws.proofs.implied.none_at_top.Goals as goal

pub returns : goal.returns
returns c = none-at-top
