use Rattle.accept_laws.proofs.Stripping.{stripped-good}
use Rattle.accept_laws.proofs.laws.stripped_lines_are_good.Goals as goal

pub returns : goal.returns
returns c = λ instance lines formed good. stripped-good instance lines formed good
