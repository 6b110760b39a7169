use Rattle.fapp_workers.proofs.Settled.{offers-counted}
use Rattle.fapp_workers.proofs.laws.offers_are_counted.Goals as goal

pub returns : goal.returns
returns c = offers-counted
