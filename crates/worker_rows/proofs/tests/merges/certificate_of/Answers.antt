use Rattle.std.proofs.Common.{◌≡◌, subst}
use Rattle.fapp_model.specs.declared.instance.Instance.{Instance}
use Rattle.fapp_model.specs.Tags.{triple_from}
use Rattle.fapp_model.specs.search.Jobs.{job_count}
use Rattle.arc_levels.specs.Outside.{IsRootTag}
use Rattle.merge_laws.proofs.Ruling.{root-is_tag}
use Rattle.worker_rows.proofs.SpentLaws.{spent-mergeable, spent-tags}
use Rattle.worker_rows.proofs.tests.merges.certificate_of.Goals as goal

pub verdict-requires-clause-outcomes : goal.verdict-requires-clause-outcomes
verdict-requires-clause-outcomes c =
    spent-tags c.in_ok-collected.collected (job_count c.args.plan.now.instance c.args.plan.now.split) c.in_ok-collected.ensures c.args.plan.now.instance

pub verdict-requires-clause-arcs : goal.verdict-requires-clause-arcs
verdict-requires-clause-arcs c =
    root-is_tag c.args.plan.now.instance c.root_tag.result.code
    (subst (λ (i : Instance). IsRootTag i (triple_from c.root_tag.result.code)) c.requires.arcs c.root_tag.ensures)

pub merge-requires-clause-mergeable : goal.merge-requires-clause-mergeable
merge-requires-clause-mergeable c = (
  c.args.word.code,
  spent-mergeable c.args.plan.now.instance c.args.plan.now.split c.new.result.items c.in_ok-collected.collected c.args.word.code c.root_tag.result.code c.in_ok-verdict.verdict
      c.new.ensures.items c.in_ok-collected.ensures c.requires.word
      (subst (λ (i : Instance). IsRootTag i (triple_from c.root_tag.result.code)) c.requires.arcs c.root_tag.ensures)
      c.in_ok-verdict.ensures.rule,
)
