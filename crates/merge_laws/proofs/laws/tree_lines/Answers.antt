use Rattle.merge_laws.proofs.Merging.{whole-tree}
use Rattle.merge_laws.proofs.laws.tree_lines.Goals as goal

pub returns : goal.returns
returns c = λ instance t number paths out. whole-tree instance t number paths out
