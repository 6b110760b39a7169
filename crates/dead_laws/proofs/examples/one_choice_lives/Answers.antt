use Rattle.dead_laws.proofs.ThreeAlike.{one-lives}
use Rattle.dead_laws.proofs.examples.one_choice_lives.Goals as goal

pub returns : goal.returns
returns c = one-lives
