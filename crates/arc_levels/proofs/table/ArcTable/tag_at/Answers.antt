use Rattle.std.proofs.Common.{◌∙◌, subst, arith}
use Rattle.fapp_model.specs.declared.instance.Instance.{Instance}
use Rattle.fapp_model.specs.Tags.{triple_from}
use Rattle.fapp_model.specs.search.Partials.{literal}
use Rattle.fapp_model.proofs.LevelNumbers.{levels-few}
use Rattle.arc_levels.specs.Heights.{AreArcs}
use Rattle.arc_levels.proofs.LevelLaws.{outside_tag}
use Rattle.arc_levels.proofs.table.ArcTable.tag_at.Goals as goal

pub plain_tag-requires : goal.plain_tag-requires
plain_tag-requires c =
    let rows = c.self.inside.removals.rows.items in
    let arcs = subst (λ (i : Instance). AreArcs i rows) c.self.view_is c.self.invariant.arcs in
    let low = arcs.low (literal c.args.path c.args.choice) c.requires in
    omega (arith, c.from.ensures, c.height.ensures, low, (levels-few c.args.self.now).1)

pub returns : goal.returns
returns c =
    let rows = c.self.inside.removals.rows.items in
    let arcs = subst (λ (i : Instance). AreArcs i rows) c.self.view_is c.self.invariant.arcs in
    outside_tag c.args.self.now rows arcs (literal c.args.path c.args.choice) c.requires (triple_from c.plain_tag.result.code)
    (c.plain_tag.ensures.k ∙ (c.from.ensures ∙ c.height.ensures)) c.plain_tag.ensures.limit c.plain_tag.ensures.further
