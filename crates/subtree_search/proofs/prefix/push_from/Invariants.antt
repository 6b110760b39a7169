use Rattle.std.proofs.Common.{◌≡◌, take}
use Rattle.choice_counts.specs.ForwardStates.{with_literals}
use Rattle.subtree_search.proofs.prefix.push_from.Given as goal

-- the first few literals are pushed
abbrev pub invariant-loop-place : goal.invariant-loop-place
invariant-loop-place l = l.forward ≡ with_literals l.fn.forward (take l.place l.prefix)
