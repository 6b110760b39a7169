use Rattle.arc_levels.proofs.LevelLaws.{IsPassed}
use Rattle.arc_levels.proofs.levels.settle_all.Given as goal

abbrev pub invariant-loop-step : goal.invariant-loop-step
invariant-loop-step l = IsPassed l.tables l.removals.rows.items l.removals.lines l.step
