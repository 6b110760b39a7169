use Rattle.std.proofs.Common.{◌≡◌, ◌≤◌, length, take}
use Rattle.choice_counts.specs.ForwardStates.{with_literals}
use Rattle.subtree_search.proofs.prefix.take_back_to.Given as goal

-- the first few literals are left
abbrev pub invariant-loop-forward : goal.invariant-loop-forward
invariant-loop-forward l = (l.forward ≡ with_literals l.fn.forward (take (length l.forward.pushed) l.fn.forward.pushed))
    × (l.count ≤ length l.forward.pushed) × (length l.forward.pushed ≤ length l.fn.forward.pushed)

abbrev pub decreases-loop-forward : goal.decreases-loop-forward
decreases-loop-forward l = length l.forward.pushed
