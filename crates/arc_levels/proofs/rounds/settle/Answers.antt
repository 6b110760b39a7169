use Rattle.arc_levels.proofs.HeightLaws.{arcs_at_last}
use Rattle.arc_levels.proofs.rounds.settle.Goals as goal

pub returns-clause-arcs : goal.returns-clause-arcs
returns-clause-arcs c =
    let new = c.sweep.new.removals in
    let kept = c.in_ok-sweep.ensures.removals in
    arcs_at_last c.args.tables.now c.args.level new.rows.items kept.heights c.requires.level kept.wide (c.in_ok-sweep.ensures.sweep.served c.if-branch.false)
