use Rattle.std.proofs.Common.{◌≡◌, take}
use Rattle.choice_counts.specs.ForwardStates.{with_literals}
use Rattle.subtree_search.proofs.prefix.push_all.Given as goal

-- the first few literals are pushed
abbrev pub invariant-loop-literal : goal.invariant-loop-literal
invariant-loop-literal l = l.forward ≡ with_literals l.fn.forward (take l.literal-index l.prefix)
