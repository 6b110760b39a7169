use Rattle.steal_ring.proofs.RingRule.{closes}
use Rattle.steal_ring.proofs.seat.Ring.end.Goals as goal

pub returns : goal.returns
returns c = closes _ _ _ _ _ c.args.seat.unspent c.requires.share c.close_with.ensures.values.2
