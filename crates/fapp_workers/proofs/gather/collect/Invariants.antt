use Rattle.std.proofs.Common.{take}
use Rattle.fapp_model.specs.search.Jobs.{job_count}
use Rattle.fapp_workers.specs.Puts.{ArePut}
use Rattle.fapp_workers.proofs.gather.collect.Given as goal

abbrev pub invariant-loop-k : goal.invariant-loop-k
invariant-loop-k l = ArePut (job_count l.plan.instance l.plan.split) (take l.k l.puts) l.collected l.ticks.items
