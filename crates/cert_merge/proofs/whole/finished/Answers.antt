use Rattle.std.proofs.Common.{[], ◌∷◌, All, sym, ap, ◌∙◌, subst}
use Rattle.fapp_plan.specs.NamedPaths.{prefix_paths}
use Rattle.merge_laws.specs.Levels.{emit_tree}
use Rattle.merge_laws.specs.Refuted.{prefix_number}
use Rattle.merge_laws.specs.Stages.{Merged}
use Rattle.cert_merge.specs.Growth.{AreWithSteps, IsStepOf, deepest, step_paths}
use Rattle.cert_merge.proofs.PlanSteps.{counts-are, finished-above, plan-deepest, plan-differs, plan-paths}
use Rattle.cert_merge.proofs.whole.finished.Goals as goal

pub write_tree-requires-clause-steps : goal.write_tree-requires-clause-steps
write_tree-requires-clause-steps c =
    let instance = c.args.plan.now.instance in
    let counts = subst (All (IsStepOf instance)) (sym c.steps.ensures.value) (counts-are instance (prefix_paths instance c.args.plan.now.split)) in
    λ k d l. (counts k d l, c.steps.ensures.few k d l)

pub write_tree-requires-clause-apart : goal.write_tree-requires-clause-apart
write_tree-requires-clause-apart c =
    subst (AreWithSteps (step_paths c.steps.result.now)) (sym (c.deref.ensures.value ∙ c.in_ok-lists.ensures))
    (plan-differs c.args.plan.now.instance c.args.plan.now.split c.steps.result.now c.steps.ensures.value)

pub write_tree-requires-clause-prefixes : goal.write_tree-requires-clause-prefixes
write_tree-requires-clause-prefixes c =
    ap (deepest c.args.plan.now.instance (step_paths c.steps.result.now)) (c.deref.ensures.value ∙ c.in_ok-lists.ensures)
    ∙ plan-deepest c.args.plan.now.instance c.args.plan.now.split c.steps.result.now c.steps.ensures.value

pub returns-clause-value : goal.returns-clause-value
returns-clause-value c =
    let instance = c.args.plan.now.instance in
    let number = prefix_number instance c.args.collected.now c.args.tag.code c.args.merged in
    c.into_lines-2.ensures.value
    ∙ (ap (λ (s : Merged). s.out) c.in_ok-write_tree.ensures
    ∙ (ap (λ lists. emit_tree instance c.args.tag number (step_paths c.steps.result.now) lists c.args.merged.out) (c.deref.ensures.value ∙ c.in_ok-lists.ensures)
    ∙ (ap (λ paths. emit_tree instance c.args.tag number paths ([] ∷ []) c.args.merged.out) (plan-paths instance c.args.plan.now.split c.steps.result.now c.steps.ensures.value)
    ∙ sym (finished-above instance c.args.plan.now.split c.args.collected.now c.args.tag c.args.root.code c.args.merged c.if-tag-root.false))))
