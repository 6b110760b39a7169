use Rattle.fapp_workers.proofs.WorkingOn.{stays}
use Rattle.fapp_workers.proofs.laws.settled_jobs_stay.Goals as goal

pub returns : goal.returns
returns c = stays
