-- The relaxation levels of an instance.
use Rattle.std.specs.Prelude.{ℕ}
use Rattle.fapp_model.specs.declared.instance.Instance.{Instance}
use Rattle.fapp_model.specs.declared.level.TheConstants.{LEVELS}

-- how many levels it has, from 0 on, at which records have distances; at the level of this number
-- nothing is violated
unfoldable pub levels_of : Instance → ℕ
levels_of instance = LEVELS
