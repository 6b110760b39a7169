use Rattle.dead_laws.proofs.DeadImplied.{dead-implied}
use Rattle.dead_laws.proofs.dead.dead_is_implied.Goals as goal

pub returns : goal.returns
returns c = λ instance t literals. dead-implied instance t literals
