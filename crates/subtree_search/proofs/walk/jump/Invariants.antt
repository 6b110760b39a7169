use Rattle.std.proofs.Common.{length}
use Rattle.subtree_search.proofs.Jumping.{Jumping}
use Rattle.subtree_search.proofs.walk.jump.Given as goal

-- nodes were left so far
abbrev pub invariant-loop-line : goal.invariant-loop-line
invariant-loop-line l = Jumping l.fn.forward l.forward l.fn.walk l.walk l.fn.found l.log

abbrev pub decreases-loop-line : goal.decreases-loop-line
decreases-loop-line l = length l.walk.nodes.items
