use Rattle.accept_laws.proofs.StrippedForms.{stripped-formed}
use Rattle.accept_laws.proofs.laws.stripped_lines_are_formed.Goals as goal

pub returns : goal.returns
returns c = λ instance lines formed good. stripped-formed instance lines formed good
