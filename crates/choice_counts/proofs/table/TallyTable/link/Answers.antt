use Rattle.std.proofs.Common.{◌<◌, ◌∙◌, List, ap, sym, subst, get_or, length}
use Rattle.fapp_tables.specs.Indexes.{neighbours_of}
use Rattle.choice_counts.specs.declared.fill.PairCells.{PairCells}
use Rattle.choice_counts.specs.Links.{IsPairCells}
use Rattle.choice_counts.specs.Tables.{TallyState}
use Rattle.choice_counts.proofs.TableLaws.{link_found}
use Rattle.choice_counts.proofs.table.TallyTable.link.Goals as goal

pub returns : goal.returns
returns c =
    let inside = c.self.inside in
    let path = c.args.path in
    let place = c.args.place in
    let row_is = c.behind-self.view_is ∙ (c.index.ensures ∙ ap (λ (r : List PairCells). get_or inside.table.items path r) (sym c.behind-self.view_is)) in
    subst (λ (state : TallyState). IsPairCells state.instance state.level path (get_or (neighbours_of state.instance path) place 0) c.index-2.result.now) c.self.view_is
    (link_found inside.tables.now inside.level inside.table.items path place c.behind-self.inside.links.items c.index-2.result.now c.self.invariant.1
    (subst (λ (state : TallyState). path < length state.instance.paths) (sym c.self.view_is) c.requires.path)
    (subst (λ (state : TallyState). place < length (neighbours_of state.instance path)) (sym c.self.view_is) c.requires.place)
    row_is c.index-2.ensures)
