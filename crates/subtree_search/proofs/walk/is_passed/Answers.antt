use Rattle.std.proofs.Common.{◌-◌, length, take, sym, ◌∙◌}
use Rattle.subtree_search.proofs.Advancing.{last-of, not-false}
use Rattle.subtree_search.proofs.walk.is_passed.Goals as goal

pub returns-in-Some : goal.returns-in-Some
returns-in-Some c = λ t. (
  take (length c.args.nodes.now - 1) c.args.nodes.now,
  c.in-Some.node.now,
  last-of c.args.nodes.now c.in-Some.node.now (sym c.in-Some.ensures.value),
  sym c.names_path.ensures ∙ not-false c.names_path.result t,
)
