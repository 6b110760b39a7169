use Rattle.std.specs.Prelude.{◌≡◌}
use Rattle.choice_counts.specs.ForwardStates.{with_literals}
use Rattle.settle_laws.specs.Explained.{Explains}
use Rattle.subtree_search.proofs.explain.reduce.Given as goal

-- what is left closes the node
abbrev pub invariant-loop-step : goal.invariant-loop-step
invariant-loop-step l = (l.forward ≡ with_literals l.fn.forward l.forward.pushed)
    × Explains l.fn.forward.instance l.seen.cites.items l.log.lines l.literals l.forward.pushed l.node
