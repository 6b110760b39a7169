use Rattle.dead_laws.proofs.ImpliedLemmas.{Implied-more}
use Rattle.dead_laws.proofs.implied.implied_in_extensions.Goals as goal

pub returns : goal.returns
returns c = λ instance t literals more. Implied-more instance t literals more
