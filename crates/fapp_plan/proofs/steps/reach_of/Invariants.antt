use Rattle.std.proofs.Common.{◌≡◌, ◌≤◌, take}
use Rattle.fapp_model.specs.search.Jobs.{ways}
use Rattle.fapp_plan.proofs.steps.reach_of.Given as goal

abbrev pub invariant-loop-place : goal.invariant-loop-place
invariant-loop-place l = record {
  ways : l.ways ≡ ways l.instance (take l.place l.order);
  fits : l.ways ≤ l.split;
}
