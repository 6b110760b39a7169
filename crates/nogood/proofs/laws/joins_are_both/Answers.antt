use Rattle.nogood.proofs.JoinLemmas.{one_join, extends_both}
use Rattle.nogood.proofs.laws.joins_are_both.Goals as goal

pub returns : goal.returns
returns c = record { one = one_join; both = extends_both }
