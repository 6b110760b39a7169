use Rattle.dead_laws.proofs.DeadTests.{dead-judged}
use Rattle.dead_laws.proofs.dead.dead_by_test.Goals as goal

pub returns : goal.returns
returns c = λ instance t literals arc. dead-judged instance t literals arc
