use Rattle.accept_laws.proofs.StrippedAgain.{stripped-again}
use Rattle.accept_laws.proofs.laws.stripped_again.Goals as goal

pub returns : goal.returns
returns c = λ lines plain ready. stripped-again lines plain ready
