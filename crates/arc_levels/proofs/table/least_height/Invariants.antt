use Rattle.arc_levels.specs.Heights.{IsLeastHeight}
use Rattle.arc_levels.proofs.table.least_height.Given as goal

abbrev pub invariant-loop-choice : goal.invariant-loop-choice
invariant-loop-choice l = IsLeastHeight l.instance l.removals.rows.items l.path l.choice l.least
