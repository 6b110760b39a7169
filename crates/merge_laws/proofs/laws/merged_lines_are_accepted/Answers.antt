use Rattle.merge_laws.proofs.Merging.{merged}
use Rattle.merge_laws.proofs.laws.merged_lines_are_accepted.Goals as goal

pub returns : goal.returns
returns c = λ instance split logs outcomes word verdict lines valid given made few. merged instance split logs outcomes word verdict lines valid given made few
