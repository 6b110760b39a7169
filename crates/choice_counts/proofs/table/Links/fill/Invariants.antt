use Rattle.std.proofs.Common.{◌≡◌, ◌<◌, ℕ, length, get_or}
use Rattle.fapp_tables.specs.Indexes.{neighbours_of}
use Rattle.choice_counts.specs.Links.{IsPairCells}
use Rattle.choice_counts.specs.Tables.{pair_cells_at}
use Rattle.choice_counts.proofs.table.Links.fill.Given as goal

abbrev pub invariant-loop-place : goal.invariant-loop-place
invariant-loop-place l = record {
  count : length l.self-inside.links.items ≡ length (neighbours_of l.tables l.path);
  done : (k : ℕ) → k < l.place → IsPairCells l.tables l.level l.path (get_or (neighbours_of l.tables l.path) k 0) (pair_cells_at l.self-inside.links.items k);
}
