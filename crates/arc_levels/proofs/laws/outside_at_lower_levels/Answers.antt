use Rattle.dead_laws.proofs.LowerLevels.{outside_lower}
use Rattle.arc_levels.proofs.laws.outside_at_lower_levels.Goals as goal

pub returns : goal.returns
returns c instance low high a valid below out = outside_lower instance valid low high below a out
