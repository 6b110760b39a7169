use Rattle.merge_laws.proofs.Ruling.{one-root}
use Rattle.merge_laws.proofs.laws.one_root_tag.Goals as goal

pub returns : goal.returns
returns c = λ instance a b. one-root instance a b
