use Rattle.dead_laws.proofs.DeadTests.{dead_or_not}
use Rattle.dead_laws.proofs.dead.dead_is_decided.Goals as goal

pub returns : goal.returns
returns c = λ instance t literals. dead_or_not instance t literals
