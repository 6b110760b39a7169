use Rattle.fapp_model.specs.search.Jobs.{job_count}
use Rattle.worker_rows.proofs.SpentLaws.{AreSpentTo}
use Rattle.worker_rows.proofs.tests.merges.all_spent.Given as goal

abbrev pub invariant-loop-id : goal.invariant-loop-id
invariant-loop-id l = AreSpentTo (job_count l.plan.instance l.plan.split) l.id l.collected
