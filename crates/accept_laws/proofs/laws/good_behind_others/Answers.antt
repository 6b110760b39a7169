use Rattle.accept_laws.proofs.Renumbering.{good-behind}
use Rattle.accept_laws.proofs.laws.good_behind_others.Goals as goal

pub returns : goal.returns
returns c = λ instance others lines. good-behind instance others lines
