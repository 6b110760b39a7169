use Rattle.nogood.proofs.JoinLemmas.{join_stays, without_stays}
use Rattle.nogood.proofs.laws.literals_stay.Goals as goal

pub returns : goal.returns
returns c = record { join = join_stays; without = without_stays }
