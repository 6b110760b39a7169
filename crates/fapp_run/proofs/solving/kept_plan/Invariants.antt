use Rattle.fapp_run.proofs.Shown.{NoneKeptTo}
use Rattle.fapp_run.proofs.solving.kept_plan.Given as goal

abbrev pub invariant-loop-log : goal.invariant-loop-log
invariant-loop-log l = NoneKeptTo l.logs l.log-index l.cost
