use Rattle.std.proofs.Common.{◌≡◌, sum_by, take}
use Rattle.choice_counts.specs.Tallies.{least_part, stuck_part}
use Rattle.choice_counts.specs.declared.rows.PathTallies.{PathTallies}
use Rattle.forward_count.proofs.start.open_of.Given as goal

abbrev pub invariant-loop-row : goal.invariant-loop-row
invariant-loop-row l = record {
  stuck : l.open_paths.stuck ≡ sum_by (λ (row : PathTallies). stuck_part row.least) (take l.row-index l.rows);
  least : l.open_paths.least ≡ sum_by (λ (row : PathTallies). least_part row.least) (take l.row-index l.rows);
}
