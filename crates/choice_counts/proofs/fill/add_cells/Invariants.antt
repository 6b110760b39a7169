use Rattle.std.proofs.Common.{◌≡◌}
use Rattle.choice_counts.specs.Cells.{AreCells, end_of_cells}
use Rattle.choice_counts.proofs.fill.add_cells.Given as goal

abbrev pub invariant-loop-step : goal.invariant-loop-step
invariant-loop-step l = record {
  cells : AreCells l.pair.instance.now l.pair.level l.pair.path l.pair.other l.cells;
  reached : end_of_cells l.cells ≡ l.distance;
}
