use Rattle.std.proofs.Common.{◌-◌}
use Rattle.settle_laws.specs.Passed.{Passes}
use Rattle.subtree_search.proofs.pass.pass_settled.Given as goal

-- those so far were passed by
abbrev pub invariant-loop-node : goal.invariant-loop-node
invariant-loop-node l = Passes l.forward.instance l.recall.first l.forward.pushed l.log l.fn.node l.node

abbrev pub decreases-loop-node : goal.decreases-loop-node
decreases-loop-node l = l.node.count - l.node.choice
