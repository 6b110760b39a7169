use Rattle.accept_laws.proofs.Accepting.{accepted-parts, parts-accepted}
use Rattle.accept_laws.proofs.laws.accepts_by_parts.Goals as goal

pub returns : goal.returns
returns c = λ instance answer. (accepted-parts instance answer, parts-accepted instance answer)
