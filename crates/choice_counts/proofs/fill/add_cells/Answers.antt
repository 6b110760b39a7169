use Rattle.std.proofs.Common.{◌≡◌, ℕ, List, [], ap, sym, subst, arith}
use Rattle.choice_counts.specs.declared.cells.Cell.{Cell}
use Rattle.choice_counts.specs.Cells.{AreCells, IsCell, end_of_cells}
use Rattle.choice_counts.proofs.CellLaws.{extends_cells, extends_end}
use Rattle.choice_counts.proofs.fill.add_cells.Goals as goal

none : (A : List Cell → Type 0) (cells : List Cell) → cells ≡ [] → A [] → A cells
none A cells e a = subst A (sym e) a

pub loop-step-init : goal.loop-step-init
loop-step-init c = record {
  cells = none (AreCells c.args.pair.now.instance.now c.args.pair.now.level c.args.pair.now.path c.args.pair.now.other) c.args.cells.now c.requires.none (λ place inside. absurd (omega (arith, inside)));
  reached = ap end_of_cells c.requires.none;
}

pub returns-then-not-extend-clause-cells : goal.returns-then-not-extend-clause-cells
returns-then-not-extend-clause-cells c =
    let p = c.args.pair.now in
    subst (AreCells p.instance.now p.level p.path p.other) (sym (c.extend.ensures.full c.if-not-extend.true)) c.loop-step.invariant.cells

pub returns-then-cell-eq-NO_REACH-clause-cells : goal.returns-then-cell-eq-NO_REACH-clause-cells
returns-then-cell-eq-NO_REACH-clause-cells c =
    let p = c.args.pair.now in
    extends_cells c.loop-step.cells c.cell-cell.result p.instance.now p.level p.path p.other c.loop-step.invariant.cells
    (subst (λ (n : ℕ). IsCell p.instance.now p.level p.path p.other n c.cell-cell.result) (sym c.loop-step.invariant.reached) c.cell-cell.ensures.tallies)
    c.extend.new.self (c.extend.ensures.added c.if-not-extend.false)

pub loop-step-preserved : goal.loop-step-preserved
loop-step-preserved c =
    let p = c.args.pair.now in
    record {
      cells = extends_cells c.loop-step.cells c.cell-cell.result p.instance.now p.level p.path p.other c.loop-step.invariant.cells
          (subst (λ (n : ℕ). IsCell p.instance.now p.level p.path p.other n c.cell-cell.result) (sym c.loop-step.invariant.reached) c.cell-cell.ensures.tallies)
          c.extend.new.self (c.extend.ensures.added c.if-not-extend.false);
      reached = extends_end c.loop-step.cells c.cell-cell.result c.extend.new.self (c.extend.ensures.added c.if-not-extend.false);
    }
