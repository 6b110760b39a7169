use Rattle.accept_laws.proofs.Compacting.{compacted-good}
use Rattle.accept_laws.proofs.laws.compacted_lines_are_good.Goals as goal

pub returns : goal.returns
returns c = λ instance lines formed good. compacted-good instance lines formed good
