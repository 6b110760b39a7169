use Rattle.std.proofs.Common.{◌≡◌, map}
use Rattle.std.specs.List.{range_with_len}
use Rattle.fapp_model.specs.Assignments.{chosen}
use Rattle.fapp_run.proofs.plan.shown.Given as goal

abbrev pub invariant-loop-position : goal.invariant-loop-position
invariant-loop-position l = l.choices.items ≡ map (chosen l.instance l.plan) (range_with_len 0 l.position)
