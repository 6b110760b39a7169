use Rattle.std.proofs.Common.{sym, ap, ◌∙◌, subst}
use Rattle.fapp_model.specs.declared.instance.Instance.{Instance}
use Rattle.fapp_model.specs.Instances.{IsInstance}
use Rattle.cert_lines.specs.WellFormed.{IsVerdict}
use Rattle.cert_lines.specs.acceptance.RootFaults.{verdict_tag}
use Rattle.merge_laws.specs.MergedLines.{IsCertificateAfterAt}
use Rattle.merge_laws.proofs.Merging.{merged-after}
use Rattle.cert_merge.proofs.Ends.{verdict-formed}
use Rattle.cert_merge.proofs.whole.merge_after.Goals as goal

pub verdict_tag-tag-requires : goal.verdict_tag-tag-requires
verdict_tag-tag-requires c =
    let valid = subst IsInstance c.instance.ensures.value c.instance.ensures.valid in
    subst (λ (i : Instance). IsVerdict i c.args.verdict.now) (sym c.instance.ensures.value)
    (verdict-formed c.args.plan.now.instance c.args.plan.now.split c.args.old.now c.args.placed.now c.args.logs.items c.args.collected.now c.requires.mergeable.0 c.args.verdict.now valid c.requires.mergeable.1)

pub certificate_at-requires-clause-planned : goal.certificate_at-requires-clause-planned
certificate_at-requires-clause-planned c = c.requires.mergeable.1.outcomes_are.count

pub returns-clause-order : goal.returns-clause-order
returns-clause-order c =
    subst (λ t. IsCertificateAfterAt c.args.plan.now.instance c.args.plan.now.split c.args.old.now c.args.placed.now c.args.logs.items c.args.collected.now t c.in_ok-lines.lines.items)
    (c.verdict_tag-tag.ensures ∙ ap (λ (i : Instance). verdict_tag i c.args.verdict.now) c.instance.ensures.value)
    c.in_ok-lines.ensures.order

pub returns-clause-accepted : goal.returns-clause-accepted
returns-clause-accepted c =
    let valid = subst IsInstance c.instance.ensures.value c.instance.ensures.valid in
    let order = subst (λ t. IsCertificateAfterAt c.args.plan.now.instance c.args.plan.now.split c.args.old.now c.args.placed.now c.args.logs.items c.args.collected.now t c.in_ok-lines.lines.items)
    (c.verdict_tag-tag.ensures ∙ ap (λ (i : Instance). verdict_tag i c.args.verdict.now) c.instance.ensures.value)
    c.in_ok-lines.ensures.order in
    merged-after c.args.plan.now.instance c.args.plan.now.split c.args.old.now c.args.placed.now c.args.logs.items c.args.collected.now c.requires.mergeable.0 c.args.verdict.now c.in_ok-lines.lines.items valid c.requires.mergeable.1 order
    c.in_ok-lines.ensures.few
