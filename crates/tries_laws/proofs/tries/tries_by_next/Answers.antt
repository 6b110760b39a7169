use Rattle.tries_laws.proofs.Extensions.{tries-dead, tries-last, tries-next}
use Rattle.tries_laws.proofs.tries.tries_by_next.Goals as goal

pub returns : goal.returns
returns c = record { dead = tries-dead; last = tries-last; next = tries-next }
