use Rattle.cert_lines.specs.acceptance.RootFaults.{verdict_tag}
use Rattle.merge_laws.proofs.Merging.{certificate-before, merged-before, mergeable-after}
use Rattle.cert_merge.proofs.whole.merge.Goals as goal

pub merge_after-requires-clause-mergeable : goal.merge_after-requires-clause-mergeable
merge_after-requires-clause-mergeable c =
    (c.requires.mergeable.0, mergeable-after c.args.plan.now.instance c.args.plan.now.split c.args.logs.items c.args.collected.now c.requires.mergeable.0 c.args.verdict.now c.requires.mergeable.1)

pub returns-clause-order : goal.returns-clause-order
returns-clause-order c =
    certificate-before c.args.plan.now.instance c.args.plan.now.split c.args.logs.items c.args.collected.now (verdict_tag c.args.plan.now.instance c.args.verdict.now) c.in_ok-lines.lines.items c.in_ok-lines.ensures.order

pub returns-clause-accepted : goal.returns-clause-accepted
returns-clause-accepted c = merged-before c.args.plan.now.instance c.args.plan.now.split c.args.logs.items c.args.verdict.now c.in_ok-lines.lines.items c.in_ok-lines.ensures.accepted
