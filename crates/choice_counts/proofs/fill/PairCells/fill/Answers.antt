use Rattle.std.proofs.Common.{List, subst, sym}
use Rattle.choice_counts.specs.declared.cells.Cell.{Cell}
use Rattle.choice_counts.specs.Cells.{IsFar}
use Rattle.choice_counts.specs.Links.{IsPairCells}
use Rattle.choice_counts.proofs.CellLaws.{far_none}
use Rattle.choice_counts.proofs.fill.PairCells.fill.Goals as goal

pub returns-then-add_cells : goal.returns-then-add_cells
returns-then-add_cells c =
    let p = c.args.pair.now in
    let whole = c.add_cells.ensures.whole c.if-add_cells.true in
    subst (λ (cells : List Cell). IsPairCells p.instance.now p.level p.path p.other (record { cells = cells; far = c.far_of-self.result })) (sym c.note_places.ensures)
    (record {
      cells = c.add_cells.ensures.cells;
      whole = λ some. whole;
      far = far_none p.instance.now p.level p.path p.other c.add_cells.new.cells c.far_of-self.result c.add_cells.ensures.cells whole
          (subst (λ (cells : List Cell). IsFar cells c.far_of-self.result) c.as_slice.ensures c.far_of-self.ensures);
    })
