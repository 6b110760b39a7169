use Rattle.std.proofs.Common.{◌≡◌, length}
use Rattle.choice_counts.specs.ForwardStates.{with_literals}
use Rattle.subtree_search.proofs.prefix.take_all_back.Given as goal

-- only the literals change
abbrev pub invariant-loop-forward : goal.invariant-loop-forward
invariant-loop-forward l = l.forward ≡ with_literals l.fn.forward l.forward.pushed

abbrev pub decreases-loop-forward : goal.decreases-loop-forward
decreases-loop-forward l = length l.forward.pushed
