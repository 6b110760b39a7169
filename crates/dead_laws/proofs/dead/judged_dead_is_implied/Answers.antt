use Rattle.std.proofs.Common.{◌≡◌, true}
use Rattle.dead_laws.proofs.DeadImplied.{dead_by-implied}
use Rattle.dead_laws.proofs.dead.judged_dead_is_implied.Goals as goal

pub returns : goal.returns
returns c = λ outside. dead_by-implied (λ a. outside a ≡ true)
