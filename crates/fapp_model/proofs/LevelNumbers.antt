-- How many levels an instance has.
use Rattle.std.proofs.Common.{◌≡◌, ◌≤◌, arith, refl}
use Rattle.fapp_model.specs.declared.instance.Instance.{Instance}
use Rattle.fapp_model.specs.declared.level.TheConstants.{LEVELS, MAX_LEVELS}
use Rattle.fapp_model.specs.Levels.{levels_of}

pub levels-few : (instance : Instance) → (1 ≤ levels_of instance) × (levels_of instance ≤ MAX_LEVELS)
unfolding levels_of
levels-few instance = (omega arith, omega arith)

-- today each instance has the same number of levels
pub levels-are : (instance : Instance) → levels_of instance ≡ LEVELS
unfolding levels_of
levels-are instance = refl
