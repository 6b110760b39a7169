use Rattle.fapp_workers.proofs.WorkingOn.{goes-on}
use Rattle.fapp_workers.proofs.laws.work_goes_on.Goals as goal

pub returns : goal.returns
returns c = goes-on
