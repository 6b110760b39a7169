use Rattle.std.proofs.Common.{◌≡◌}
use Rattle.fapp_workers.specs.Solved.{works_logs}
use Rattle.fapp_workers.proofs.gather.logs_of.Given as goal

abbrev pub invariant-loop-work : goal.invariant-loop-work
invariant-loop-work l = l.logs.items ≡ works_logs l.yielded
