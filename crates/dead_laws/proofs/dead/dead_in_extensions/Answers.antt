use Rattle.dead_laws.proofs.DeadMore.{dead-more}
use Rattle.dead_laws.proofs.dead.dead_in_extensions.Goals as goal

pub returns : goal.returns
returns c = λ instance t literals more valid. dead-more instance t literals more valid
