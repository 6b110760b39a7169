use Rattle.std.proofs.Common.{◌≡◌, ◌↔◌, ◌<◌, nat_lt, IsTrue, sym, ◌∙◌, subst}
use Rattle.std.proofs.lemmas.Bool.{lt-ltb, ltb-true}
use Rattle.fapp_model.specs.declared.instance.Instance.{Instance}
use Rattle.fapp_model.specs.search.Arcs.{OutsideArc}
use Rattle.fapp_model.specs.search.Partials.{literal}
use Rattle.arc_levels.specs.Heights.{AreArcs, height_at}
use Rattle.arc_levels.proofs.LevelLaws.{outside_below}
use Rattle.arc_levels.proofs.table.ArcTable.is_outside.Goals as goal

pub returns : goal.returns
returns c =
    let a = literal c.args.path c.args.choice in
    let rows = c.self.inside.removals.rows.items in
    let arcs = subst (λ (i : Instance). AreArcs i rows) c.self.view_is c.self.invariant.arcs in
    let level : OutsideArc c.args.self.now c.args.level a ↔ (c.args.level < height_at rows c.args.path c.args.choice) =
    (outside_below c.args.self.now rows arcs a c.requires.choice).levels c.args.level c.requires.level in
    let is : c.from.result ≡ height_at rows c.args.path c.args.choice = c.from.ensures ∙ c.height.ensures in
    subst (λ n. IsTrue (nat_lt c.args.level n) ↔ OutsideArc c.args.self.now c.args.level a) (sym is)
    (λ h. level.1 (ltb-true _ _ h), λ h. lt-ltb _ _ (level.0 h))
