use Rattle.arc_levels.proofs.StepLaws.{IsTurned}
use Rattle.arc_levels.proofs.rounds.turn.Given as goal

abbrev pub invariant-loop-place : goal.invariant-loop-place
invariant-loop-place l =
    IsTurned l.tables l.level l.other l.fn.removals.rows.items l.removals.rows.items l.removals.lines l.fn.stale l.stale l.changed l.place
