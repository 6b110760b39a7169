use Rattle.std.proofs.Common.{◌≡◌, ◌≢◌, max, AllPairs, ap, sym, ◌∙◌, subst, arith}
use Rattle.fapp_model.specs.declared.instance.Instance.{Instance}
use Rattle.fapp_model.specs.declared.literal.Literal.{Literal}
use Rattle.fapp_model.specs.Instances.{IsInstance}
use Rattle.cert_lines.specs.declared.answer.Verdict.TheVariants.{Open}
use Rattle.cert_lines.specs.WellFormed.{IsVerdict}
use Rattle.fapp_plan.specs.VerdictRule.{IsVerdictOf, lower_code, open_level}
use Rattle.fapp_plan.proofs.Rules.{IsReady, open-rule, prefix-partial, settled-rule}
use Rattle.fapp_plan.proofs.collected.Collected.verdict.Goals as goal

lower-is : (c : goal.After-settled) → c.greater-lower.result.code ≡ lower_code c.args.plan.now.instance c.args.plan.now.split c.args.self.now c.args.arcs.code
unfolding lower_code
lower-is c = c.greater-lower.ensures ∙ ap (λ n. max c.args.arcs.code n) c.refuted_everywhere.ensures

pub returns-then-lower-word-clause-rule : goal.returns-then-lower-word-clause-rule
returns-then-lower-word-clause-rule c =
    let instance = c.args.plan.now.instance in
    let ready : IsReady instance c.args.plan.now.split c.args.self.now c.args.word.code c.args.arcs.code =
    record { valid = subst IsInstance c.instance.ensures.value c.instance.ensures.valid; outcomes_for = c.requires.outcomes; shown = c.requires.word; arcs_for = c.requires.arcs } in
    let rule = settled-rule instance c.args.plan.now.split c.args.self.now c.args.word.code c.args.arcs.code ready (let is = lower-is c in omega arith) in
    rw (c.settled.ensures, c.instance.ensures.value, c.triple_of-best.ensures) rule.0

pub sorted_by_path-requires : goal.sorted_by_path-requires
sorted_by_path-requires c =
    subst (AllPairs (λ (a : Literal) (b : Literal). a.path ≢ b.path)) (sym (c.as_slice.ensures ∙ c.in_ok-prefix.ensures))
    (prefix-partial c.args.plan.now.instance c.args.plan.now.split c.first_open-place.result c.first_open-place.ensures.inside).distinct

opened : (c : goal.After-drop-prefix-inside-2) →
    IsVerdictOf c.args.plan.now.instance c.args.plan.now.split c.args.self.now c.args.word.code c.args.arcs.code (Open c.triple_of-best.result c.greater-lower.result c.open_level.result c.in_ok-sorted_by_path.field-0)
    × IsVerdict c.args.plan.now.instance (Open c.triple_of-best.result c.greater-lower.result c.open_level.result c.in_ok-sorted_by_path.field-0)
unfolding lower_code
opened c =
    let instance = c.args.plan.now.instance in
    let ready : IsReady instance c.args.plan.now.split c.args.self.now c.args.word.code c.args.arcs.code =
    record { valid = subst IsInstance c.instance-2.ensures.value c.instance-2.ensures.valid; outcomes_for = c.requires.outcomes; shown = c.requires.word; arcs_for = c.requires.arcs } in
    open-rule instance c.args.plan.now.split c.args.self.now c.args.word.code c.args.arcs.code ready
    c.triple_of-best.result c.greater-lower.result c.open_level.result c.first_open-place.result c.as_slice.result.now c.in_ok-sorted_by_path.field-0
    c.triple_of-best.ensures
    (c.greater-lower.ensures ∙ ap (λ n. max c.args.arcs.code n) c.refuted_everywhere.ensures)
    c.if-lower-word.false
    (c.open_level.ensures ∙ ap (λ (i : Instance). open_level i c.triple_of-best.result) c.instance-2.ensures.value)
    c.first_open-place.ensures
    (c.as_slice.ensures ∙ c.in_ok-prefix.ensures)
    c.in_ok-sorted_by_path.ensures

pub returns-clause-rule : goal.returns-clause-rule
returns-clause-rule c = (opened c).0

pub returns-clause-formed : goal.returns-clause-formed
returns-clause-formed c = (opened c).1
