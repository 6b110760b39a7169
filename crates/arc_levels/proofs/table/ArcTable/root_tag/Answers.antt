use Rattle.std.proofs.Common.{subst, arith}
use Rattle.fapp_model.specs.declared.instance.Instance.{Instance}
use Rattle.fapp_model.specs.Tags.{triple_from}
use Rattle.fapp_model.proofs.LevelNumbers.{levels-few}
use Rattle.arc_levels.specs.Outside.{IsRootTag}
use Rattle.arc_levels.proofs.LevelLaws.{root_tag}
use Rattle.arc_levels.proofs.table.ArcTable.root_tag.Goals as goal

pub plain_tag-requires : goal.plain_tag-requires
plain_tag-requires c = omega (arith, c.greatest_least.ensures.few, (levels-few c.self.inside.instance.now).1)

pub returns : goal.returns
returns c =
    subst (λ (i : Instance). IsRootTag i (triple_from c.plain_tag.result.code)) c.self.view_is
    (root_tag c.self.inside.instance.now c.self.inside.removals.rows.items c.greatest_least.result c.self.invariant.arcs c.greatest_least.ensures (triple_from c.plain_tag.result.code)
    c.plain_tag.ensures.k c.plain_tag.ensures.limit c.plain_tag.ensures.further)
