use Rattle.fapp_workers.proofs.OpenVerdicts.{open-for}
use Rattle.fapp_workers.proofs.laws.open_says_so.Goals as goal

pub returns : goal.returns
returns c = open-for
