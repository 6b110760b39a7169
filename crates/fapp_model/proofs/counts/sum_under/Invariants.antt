use Rattle.std.proofs.Common.{◌≡◌, ◌*◌, ◌≤◌, slice_index}
use Rattle.fapp_model.specs.declared.limits.TheConstants.{MAX_RECORDS}
use Rattle.fapp_model.specs.Costs.{sum_under}
use Rattle.fapp_model.proofs.counts.sum_under.Given as goal

abbrev pub invariant-loop-level : goal.invariant-loop-level
invariant-loop-level l = (l.sum ≡ sum_under (slice_index l.counts) l.level) × (l.sum ≤ l.level * MAX_RECORDS)
