use Rattle.fapp_run.proofs.CheckKinds.{one_check_status}
use Rattle.fapp_run.proofs.laws.a_check_has_one_status.Goals as goal

pub returns : goal.returns
returns c = one_check_status
