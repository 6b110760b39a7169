use Rattle.arc_levels.proofs.StepLaws.{IsRevised}
use Rattle.arc_levels.proofs.rounds.revise.Given as goal

abbrev pub invariant-loop-choice : goal.invariant-loop-choice
invariant-loop-choice l =
    IsRevised l.pair.instance.now l.pair.level l.pair.path l.pair.other l.fn.removals.rows.items l.removals.rows.items l.removals.lines l.changed l.choice
