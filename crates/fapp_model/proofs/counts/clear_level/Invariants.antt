use Rattle.std.proofs.Common.{ℕ, ◌<◌, slice_index}
use Rattle.fapp_model.proofs.counts.clear_level.Given as goal

abbrev pub invariant-loop-level : goal.invariant-loop-level
invariant-loop-level l = (k : ℕ) → k < l.level → 0 < slice_index l.counts k
