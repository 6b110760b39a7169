use Rattle.accept_laws.proofs.CompactedForms.{compacted-formed}
use Rattle.accept_laws.proofs.laws.compacted_lines_are_formed.Goals as goal

pub returns : goal.returns
returns c = λ instance lines formed few ready. compacted-formed instance lines formed few ready
