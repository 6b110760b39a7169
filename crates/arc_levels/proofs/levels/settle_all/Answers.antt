use Rattle.std.proofs.Common.{◌-◌, ◌≡◌, ap, ◌∙◌, subst, arith}
use Rattle.fapp_model.specs.Levels.{levels_of}
use Rattle.dead_laws.specs.ArcLaws.{IsArcs}
use Rattle.arc_levels.specs.Heights.{Falls, arc_of}
use Rattle.arc_levels.specs.Removals.{AreRemovals}
use Rattle.arc_levels.proofs.LevelLaws.{passed_all, passed_more, passed_none}
use Rattle.arc_levels.proofs.levels.settle_all.Goals as goal

pub loop-step-init : goal.loop-step-init
loop-step-init c = passed_none c.args.tables.now c.args.removals.now.rows.items c.args.removals.now.lines c.requires.rows c.requires.clear c.requires.none

pub loop-step-preserved : goal.loop-step-preserved
loop-step-preserved c =
    let instance = c.args.tables.now in
    let here = c.loop-step.removals in
    let new = c.settle.new.removals in
    let highest : c.levels-highest.result ≡ levels_of instance = c.levels-highest.ensures.levels ∙ ap levels_of c.instance.ensures.value in
    let level : c.levels-highest.result - c.loop-step.step ≡ levels_of instance - c.loop-step.step = ap (λ n. n - c.loop-step.step) highest in
    passed_more instance c.requires.valid here.rows.items new.rows.items here.lines new.lines c.loop-step.step (omega (arith, c.loop-step-test.true, highest)) c.loop-step.invariant
    (subst (λ n. AreRemovals instance n new.rows.items new.lines) level c.in_ok-settle.ensures.removals)
    (subst (λ n. Falls n here.rows.items new.rows.items) level c.in_ok-settle.ensures.falls)
    (subst (λ n. IsArcs instance n (arc_of new.rows.items n)) level c.in_ok-settle.ensures.arcs)

pub returns-clause-arcs : goal.returns-clause-arcs
returns-clause-arcs c =
    passed_all c.args.tables.now c.loop-step.removals.rows.items c.loop-step.removals.lines c.loop-step.step
    (omega (arith, c.levels-highest.ensures.levels, ap levels_of c.instance.ensures.value)) c.loop-step.invariant
