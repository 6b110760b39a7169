use Rattle.std.proofs.Common.{◌<◌, inr, sym, ◌∙◌, subst, arith}
use Rattle.fapp_model.specs.declared.instance.Instance.{Instance}
use Rattle.fapp_model.specs.Tags.{triple_from}
use Rattle.arc_levels.specs.ArcLines.{AreArcLines}
use Rattle.arc_levels.specs.Outside.{IsRootTag}
use Rattle.cert_merge.proofs.Ends.{whole-is}
use Rattle.cert_merge.proofs.whole.certificate_at.Goals as goal

pub returns-clause-order : goal.returns-clause-order
returns-clause-order c =
    let above : 0 < c.args.tag.code = grind (arith, c.if-tag-eq0.false) in
    let lines = subst (λ (i : Instance). AreArcLines i c.lines.result.now) c.requires.arcs c.lines.ensures in
    let root = subst (λ (i : Instance). IsRootTag i (triple_from c.root_tag.result.code)) c.requires.arcs c.root_tag.ensures in
    inr (
      sym c.is_rooted.ensures ∙ c.if-is_rooted.false,
      inr (
        above,
        whole-is c.args.plan.now.instance c.args.plan.now.split c.args.old.now c.args.placed.now c.args.logs.items c.args.collected.now c.args.tag c.lines.result.now c.root_tag.result.code c.in_ok-merged.merged
            c.in_ok-lines-3.lines.items lines root c.in_ok-merged.ensures c.in_ok-lines-3.ensures.value,
      ),
    )
