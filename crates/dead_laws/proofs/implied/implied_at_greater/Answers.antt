use Rattle.dead_laws.proofs.ImpliedLemmas.{Implied-greater}
use Rattle.dead_laws.proofs.implied.implied_at_greater.Goals as goal

pub returns : goal.returns
returns c = λ instance t u greater literals. Implied-greater instance t u greater literals
