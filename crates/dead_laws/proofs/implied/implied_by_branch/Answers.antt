use Rattle.dead_laws.proofs.ImpliedLemmas.{Implied-branch}
use Rattle.dead_laws.proofs.implied.implied_by_branch.Goals as goal

pub returns : goal.returns
returns c = λ instance t literals path. Implied-branch instance t literals path
