use Rattle.std.proofs.Common.{◌≡◌, ◌++◌, drop}
use Rattle.fapp_model.specs.search.Jobs.{ways}
use Rattle.fapp_plan.specs.NamedPaths.{steps_along}
use Rattle.fapp_plan.proofs.steps.steps_along.Given as goal

abbrev pub invariant-loop-path : goal.invariant-loop-path
invariant-loop-path l = record {
  behind : l.behind ≡ ways l.instance (drop l.path-index l.paths);
  so_far : l.steps.items ++ steps_along l.instance (drop l.path-index l.paths) ≡ steps_along l.instance l.paths;
}
