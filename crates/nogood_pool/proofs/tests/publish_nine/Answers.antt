use Rattle.std.proofs.Common.{[], ◌∷◌}
use Rattle.nogood_pool.specs.Examples.{first_choices}
use Rattle.nogood_pool.proofs.Crowding.{crowded-row-by, nine-first}
use Rattle.nogood_pool.proofs.tests.publish_nine.Goals as goal

pub publish-requires-clause-row : goal.publish-requires-clause-row
publish-requires-clause-row c = crowded-row-by _ (4 ∷ 5 ∷ 6 ∷ 7 ∷ 8 ∷ 9 ∷ []) _ (first_choices 9) _ c.requires.crowded c.requires.lits c.top.ensures nine-first
