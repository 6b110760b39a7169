use Rattle.arc_levels.specs.Removals.{AreBlank}
use Rattle.arc_levels.proofs.levels.blank_rows.Given as goal

abbrev pub invariant-loop-path : goal.invariant-loop-path
invariant-loop-path l = AreBlank l.instance l.rows.items l.path
