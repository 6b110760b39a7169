use Rattle.arc_levels.specs.Heights.{IsGreatestLeast}
use Rattle.arc_levels.proofs.table.greatest_least.Given as goal

abbrev pub invariant-loop-path : goal.invariant-loop-path
invariant-loop-path l = IsGreatestLeast l.instance l.removals.rows.items l.path l.greatest
