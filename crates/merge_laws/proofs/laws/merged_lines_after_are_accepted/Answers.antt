use Rattle.merge_laws.proofs.Merging.{merged-after}
use Rattle.merge_laws.proofs.laws.merged_lines_after_are_accepted.Goals as goal

pub returns : goal.returns
returns c = λ instance split old placed logs outcomes word verdict lines valid given made few. merged-after instance split old placed logs outcomes word verdict lines valid given made few
