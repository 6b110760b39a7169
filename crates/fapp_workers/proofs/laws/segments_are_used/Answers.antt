use Rattle.fapp_workers.proofs.Settled.{used}
use Rattle.fapp_workers.proofs.laws.segments_are_used.Goals as goal

pub returns : goal.returns
returns c = used
