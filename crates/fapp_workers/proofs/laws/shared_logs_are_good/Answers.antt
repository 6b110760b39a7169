use Rattle.fapp_workers.proofs.Homes.{good-after, good-alone}
use Rattle.fapp_workers.proofs.laws.shared_logs_are_good.Goals as goal

pub returns : goal.returns
returns c = record { after = good-after; alone = good-alone }
