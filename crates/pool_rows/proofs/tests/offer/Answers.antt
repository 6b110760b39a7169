use Rattle.std.proofs.Common.{[], refl}
use Rattle.nogood_pool.specs.Examples.{crowded}
use Rattle.pool_rows.proofs.Crowded.{crowded-offer}
use Rattle.pool_rows.proofs.tests.offer.Goals as goal

pub offer-requires : goal.offer-requires
offer-requires c = (crowded [], c.requires.crowded, crowded-offer (crowded []) c.args.lits.now c.top.result.code refl c.requires.lits c.top.ensures)
