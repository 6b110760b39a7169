use Rattle.std.specs.Prelude.{◌≡◌}
use Rattle.choice_counts.specs.ForwardStates.{with_literals}
use Rattle.settle_laws.specs.Explained.{IsDeadPart}
use Rattle.subtree_search.proofs.explain.reduce_dead.Given as goal

-- what is left is dead
abbrev pub invariant-loop-step : goal.invariant-loop-step
invariant-loop-step l = (l.forward ≡ with_literals l.fn.forward l.forward.pushed)
    × IsDeadPart l.fn.forward.instance l.tag.code l.literals l.forward.pushed
