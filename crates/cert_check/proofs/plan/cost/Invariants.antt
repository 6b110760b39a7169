use Rattle.std.proofs.Common.{◌≡◌, ℕ, ◌<◌, true, not, slice_index, count_by, take}
use Rattle.std.specs.List.{list_all}
use Rattle.fapp_model.specs.Assignments.{violates, breaks}
use Rattle.cert_lines.specs.acceptance.PlanFaults.{indices}
use Rattle.cert_check.proofs.plan.cost.Given as goal

-- the records so far: how many are bad at each level, and none of them is broken
abbrev pub invariant-loop-record : goal.invariant-loop-record
invariant-loop-record l = record {
  counted : (level : ℕ) → level < l.levels → slice_index l.counts level ≡ count_by (violates l.instance (indices l.instance l.shown) level) (take l.record-index l.record-items);
  met : list_all (λ r. not (breaks l.instance (indices l.instance l.shown) r)) (take l.record-index l.record-items) ≡ true;
}
