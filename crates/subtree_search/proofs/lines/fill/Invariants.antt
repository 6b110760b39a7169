use Rattle.subtree_search.specs.Plans.{IsPlanOf}
use Rattle.subtree_search.proofs.lines.fill.Given as goal

-- the paths before this one are written
abbrev pub invariant-loop-path : goal.invariant-loop-path
invariant-loop-path l = IsPlanOf l.part l.path l.plan
