use Rattle.arc_levels.specs.Heights.{Falls, size_of}
use Rattle.arc_levels.specs.Removals.{AreFresh, AreRemovals}
use Rattle.arc_levels.proofs.rounds.settle.Given as goal

abbrev pub invariant-loop-stale : goal.invariant-loop-stale
invariant-loop-stale l = record {
  removals : AreRemovals l.tables l.level l.removals.rows.items l.removals.lines;
  falls : Falls l.level l.fn.removals.rows.items l.removals.rows.items;
  fresh : AreFresh l.tables l.level l.removals.rows.items l.stale.items;
}

abbrev pub decreases-loop-stale : goal.decreases-loop-stale
decreases-loop-stale l = size_of l.tables l.level l.removals.rows.items
