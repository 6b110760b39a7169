use Rattle.fapp_workers.proofs.SharedRuns.{shared-settled}
use Rattle.fapp_workers.proofs.laws.shared_run_is_settled.Goals as goal

pub returns : goal.returns
returns c = shared-settled
