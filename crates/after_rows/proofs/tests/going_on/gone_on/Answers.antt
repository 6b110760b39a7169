use Rattle.std.proofs.Common.{◌≡◌, ◌++◌, max, sym, ap, subst, ◌∙◌}
use Rattle.fapp_model.specs.declared.instance.Instance.{Instance}
use Rattle.fapp_model.specs.Instances.{IsInstance}
use Rattle.fapp_model.specs.Tags.{triple_from}
use Rattle.arc_levels.specs.Outside.{IsRootTag}
use Rattle.fapp_plan.specs.Plans.{Split}
use Rattle.fapp_plan.specs.VerdictRule.{IsVerdictOf}
use Rattle.merge_laws.specs.Conditions.{AreOld}
use Rattle.fapp_workers.proofs.SharedRuns.{tags-for}
use Rattle.fapp_workers.proofs.LeastWords.{word-shown}
use Rattle.search_log.specs.NumberedRows.{numbered_rows}
use Rattle.fapp_workers.specs.FirstRows.{ArePublishable}
use Rattle.after_rows.specs.Placing.{ArePaired, AreSaid}
use Rattle.after_rows.proofs.GoingOn.{mergeable-on}
use Rattle.after_rows.proofs.Saying.{publishable}
use Rattle.after_rows.proofs.tests.going_on.gone_on.Goals as goal

pub solve_rows-requires-clause-first : goal.solve_rows-requires-clause-first
solve_rows-requires-clause-first g c κs within =
    let same : c.in_ok-plan.plan.instance ≡ c.args.instance.now = ap (λ (p : Split). p.instance) c.in_ok-plan.ensures ∙ c.in_ok-tables.ensures in
    subst (ArePublishable c.in_ok-plan.plan.instance) (sym c.deref.ensures.value)
    (subst (λ (i : Instance). ArePublishable i c.in_ok-rows.rows.items) (sym same) (publishable c.args.instance.now c.args.old.now c.args.numbers.now c.in_ok-rows.rows.items c.requires.valid c.requires.old c.in_ok-rows.ensures))

pub verdict-requires-clause-outcomes : goal.verdict-requires-clause-outcomes
verdict-requires-clause-outcomes g c =
    let all = c.in_ok-gathered.ensures.gathered in
    tags-for c.in_ok-plan.plan 1003 (numbered_rows c.deref.result.now ++ all.rows) c.in_ok-gathered.gathered.logs.items c.in_ok-gathered.gathered.word.code c.in_ok-gathered.gathered.collected all.settled

pub verdict-requires-clause-word : goal.verdict-requires-clause-word
verdict-requires-clause-word g c =
    let same : c.in_ok-plan.plan.instance ≡ c.args.instance.now = ap (λ (p : Split). p.instance) c.in_ok-plan.ensures ∙ c.in_ok-tables.ensures in
    word-shown c.in_ok-plan.plan.instance c.in_ok-gathered.gathered.logs.items c.in_ok-gathered.gathered.word.code (subst IsInstance (sym same) c.requires.valid) c.in_ok-gathered.ensures.gathered.word

pub merge_after-requires-clause-mergeable : goal.merge_after-requires-clause-mergeable
merge_after-requires-clause-mergeable g c =
    let same : c.in_ok-plan.plan.instance ≡ c.args.instance.now = ap (λ (p : Split). p.instance) c.in_ok-plan.ensures ∙ c.in_ok-tables.ensures in
    let arcs : c.in_ok-arcs.arcs ≡ c.in_ok-plan.plan.instance = c.in_ok-arcs.ensures ∙ sym (ap (λ (p : Split). p.instance) c.in_ok-plan.ensures) in
    let all = c.in_ok-gathered.ensures.gathered in
    let root = c.root_of.ensures.code in (
      c.in_ok-gathered.gathered.word.code,
      mergeable-on c.in_ok-plan.plan 1003 c.args.old.now c.args.numbers.now c.deref.result.now c.deref-3.result.now all.rows c.in_ok-gathered.gathered.logs.items c.in_ok-gathered.gathered.word.code root.0
          c.in_ok-gathered.gathered.collected c.in_ok-verdict.verdict
          (subst IsInstance (sym same) c.requires.valid) (subst (λ (i : Instance). AreOld i c.args.old.now) (sym same) c.requires.old)
          (subst (AreSaid c.args.old.now c.args.numbers.now) (sym c.deref.ensures.value) c.in_ok-rows.ensures)
          (subst (ArePaired c.args.numbers.now) (sym c.deref-3.ensures.value) c.in_ok-pairs.ensures)
          all.logs all.settled all.word (subst (λ (i : Instance). IsRootTag i (triple_from root.0)) arcs root.1)
          (subst (λ code. IsVerdictOf c.in_ok-plan.plan.instance c.in_ok-plan.plan.split c.in_ok-gathered.gathered.collected c.in_ok-gathered.gathered.word.code code c.in_ok-verdict.verdict) root.2 c.in_ok-verdict.ensures.rule),
    )
