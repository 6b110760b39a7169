use Rattle.std.proofs.Common.{◌<◌, ℕ, length}
use Rattle.choice_counts.specs.Tables.{AreLinksOf, HasLinks, links_of}
use Rattle.choice_counts.proofs.table.fill_all.Given as goal

abbrev pub invariant-loop-path : goal.invariant-loop-path
invariant-loop-path l = record {
  shaped : HasLinks l.tables l.table (length l.tables.paths);
  done : (k : ℕ) → k < l.path → AreLinksOf l.tables l.level k (links_of l.table k);
}
