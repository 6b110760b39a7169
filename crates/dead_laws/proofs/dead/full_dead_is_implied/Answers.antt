use Rattle.dead_laws.proofs.DeadFull.{implied-dead}
use Rattle.dead_laws.proofs.DeadImplied.{dead-implied}
use Rattle.dead_laws.proofs.dead.full_dead_is_implied.Goals as goal

pub returns : goal.returns
returns c = λ instance t literals valid tag partial full.
    (dead-implied instance t literals valid tag partial, implied-dead instance t literals valid tag partial full)
