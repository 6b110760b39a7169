use Rattle.fapp_workers.proofs.Bounds.{later-offer}
use Rattle.fapp_workers.proofs.bound.SharedBoundBound.offer.Goals as goal

pub returns-clause-since : goal.returns-clause-since
returns-clause-since c was h = later-offer was.seat c.args.self.now.seat c.offer.new.seat c.args.tag.code c.offer.result.code c.offer.ensures.least c.offer.ensures.same c.offer.ensures.view h
