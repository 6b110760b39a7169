use Rattle.fapp_workers.proofs.Shown.{shown}
use Rattle.fapp_workers.proofs.laws.shared_outcomes_are_shown.Goals as goal

pub returns : goal.returns
returns c = shown
