use Rattle.fapp_workers.proofs.Settled.{job-settled}
use Rattle.fapp_workers.proofs.laws.jobs_are_settled.Goals as goal

pub returns : goal.returns
returns c = job-settled
