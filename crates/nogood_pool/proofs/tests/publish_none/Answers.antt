use Rattle.std.proofs.Common.{[], refl}
use Rattle.nogood_pool.proofs.Crowding.{crowded-row-by, no-literals}
use Rattle.nogood_pool.proofs.tests.publish_none.Goals as goal

pub publish-requires-clause-row : goal.publish-requires-clause-row
publish-requires-clause-row c = crowded-row-by _ [] _ [] _ c.requires.crowded refl c.top.ensures (no-literals [])
