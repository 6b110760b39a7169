use Rattle.arc_levels.proofs.StepLaws.{IsSwept}
use Rattle.arc_levels.proofs.rounds.sweep.Given as goal

abbrev pub invariant-loop-path : goal.invariant-loop-path
invariant-loop-path l =
    IsSwept l.tables l.level l.fn.removals.rows.items l.removals.rows.items l.removals.lines l.stale l.changed l.path
