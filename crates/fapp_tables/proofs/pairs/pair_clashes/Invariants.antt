use Rattle.std.proofs.Common.{◌≡◌, ℕ, ◌<◌, false, slice_index}
use Rattle.fapp_tables.specs.Indexes.{record_at, turned_bad}
use Rattle.fapp_tables.proofs.pairs.pair_clashes.Given as goal

abbrev pub invariant-loop-position : goal.invariant-loop-position
invariant-loop-position l =
    (k : ℕ) → k < l.position-index → turned_bad l.level l.path l.first l.second (record_at l.instance (slice_index l.positions k)) ≡ false
