use Rattle.fapp_run.proofs.CheckKinds.{accepted_proved}
use Rattle.fapp_run.proofs.laws.what_is_accepted_is_right.Goals as goal

pub returns : goal.returns
returns c = accepted_proved
