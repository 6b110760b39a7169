use Rattle.std.proofs.Common.{◌≡◌, ℕ, ◌+◌, ◌<◌, ◌≤◌, slice_index, if◌then◌else◌}
use Rattle.fapp_model.specs.Records.{is_bad}
use Rattle.fapp_model.proofs.counts.add_violations.Given as goal

abbrev pub invariant-loop-level : goal.invariant-loop-level
invariant-loop-level l = record {
  counted : (k : ℕ) → k < l.level → slice_index l.counts k ≡ slice_index l.initial.counts k + (if is_bad k l.constraint l.first l.second then 1 else 0);
  waiting : (k : ℕ) → l.level ≤ k → slice_index l.counts k ≡ slice_index l.initial.counts k;
}
