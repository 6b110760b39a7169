use Rattle.dead_laws.proofs.ImpliedLemmas.{Implied-lower}
use Rattle.dead_laws.proofs.implied.implied_at_lower_tags.Goals as goal

pub returns : goal.returns
returns c = λ instance t u literals. Implied-lower instance t u literals
