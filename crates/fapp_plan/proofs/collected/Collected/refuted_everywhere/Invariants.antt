use Rattle.std.proofs.Common.{◌≡◌, map}
use Rattle.std.specs.List.{range_with_len}
use Rattle.fapp_plan.specs.Outcomes.{least_of, refuted_at}
use Rattle.fapp_plan.proofs.collected.Collected.refuted_everywhere.Given as goal

abbrev pub invariant-loop-place : goal.invariant-loop-place
invariant-loop-place l = l.least.code ≡ least_of (map (refuted_at l.plan.instance l.self) (range_with_len 0 l.place))
