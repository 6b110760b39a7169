-- How the search of a job closes.
use Rattle.std.specs.Prelude.{◌≡◌, ℕ, ◌≤◌, List, length, Result}
use Rattle.fapp_model.specs.declared.instance.Instance.{Instance}
use Rattle.fapp_model.specs.declared.literal.Literal.{Literal}
use Rattle.fapp_model.specs.Instances.{IsInstance}
use Rattle.fapp_model.specs.Levels.{levels_of}
use Rattle.fapp_model.specs.search.Prefixes.{IsPrefix}
use Rattle.search_log.specs.Segments.{ended}
use Rattle.settle_laws.specs.declared.found.Found.{Found}
use Rattle.settle_laws.specs.Lined.{Lined}
use Rattle.settle_laws.specs.Worlds.{World}

-- what was found of a job's prefix at a level of the instance, where its lines begin at a place
-- behind all segments
pub record IsClosing {E : Type 0} (instance : Instance) (level : ℕ) (literals : List Literal)
    (old now : World) (from : ℕ) (found : Result Found E) : Type 0 where
  pub valid : IsInstance instance
  pub within : level ≤ levels_of instance
  pub prefix : IsPrefix instance literals
  pub from_is : from ≡ length old.log.lines
  pub behind : ended old.log.segments ≤ length old.log.lines
  pub lined : Lined instance level literals old now found
