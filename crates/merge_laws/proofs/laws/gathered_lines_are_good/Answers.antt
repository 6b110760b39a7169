use Rattle.merge_laws.proofs.Merging.{gathered-good}
use Rattle.merge_laws.proofs.laws.gathered_lines_are_good.Goals as goal

pub returns : goal.returns
returns c = λ instance rows logs pieces arcs room valid lined good sorted fits. gathered-good instance rows logs pieces arcs room valid lined good sorted fits
