use Rattle.std.proofs.Common.{◌≡◌, ℕ, ◌<◌, length, slice_index}
use Rattle.fapp_tables.specs.Runs.{IsStart}
use Rattle.fapp_tables.proofs.runs.starts_of.Given as goal

abbrev pub invariant-loop-path : goal.invariant-loop-path
invariant-loop-path l = record {
  whole : length l.starts.items ≡ l.path;
  each : (path : ℕ) → path < l.path → IsStart l.heads path (slice_index l.starts.items path);
}
