-- What a cost says, in the planner's words.
use Rattle.std.specs.Prelude.{◌≡◌, ◌⊎◌, ◌↔◌, ℕ, suc, ◌<◌, ◌≤◌, List}
use Rattle.fapp_model.specs.declared.instance.Instance.{Instance}
use Rattle.fapp_model.specs.Costs.{cost, violations, sum_under}
use Rattle.fapp_model.specs.Instances.{IsInstance}
use Rattle.fapp_model.specs.Levels.{levels_of}
use Rattle.fapp_model.specs.Triples.{IsBelow}

-- nothing is violated at the level of a plan's cost, and something at each level below it
pub record HasLeastClearLevel (instance : Instance) (plan : List ℕ) : Type 0 where
  pub clear : violations instance plan (cost instance plan).k ≡ 0
  pub least : (level : ℕ) → level < (cost instance plan).k → 0 < violations instance plan level
  pub within : (cost instance plan).k ≤ levels_of instance

abbrev pub CostHasLeastClearLevel : Type 0
CostHasLeastClearLevel =
    (instance : Instance) (plan : List ℕ) → IsInstance instance → HasLeastClearLevel instance plan

-- of two plans the one with the lower level costs less
abbrev pub LowerLevelCostsLess : Type 0
LowerLevelCostsLess =
    (instance : Instance) (a b : List ℕ) → (cost instance a).k < (cost instance b).k →
    IsBelow (cost instance a) (cost instance b)

-- fewer violations at a level, or as many and a smaller sum of them further below
abbrev pub HasFewer : Instance → ℕ → List ℕ → List ℕ → Type 0
HasFewer instance level a b = (violations instance a level < violations instance b level)
    ⊎ ((violations instance a level ≡ violations instance b level)
    × (sum_under (violations instance a) level < sum_under (violations instance b) level))

-- at one level, the violations one level below decide, and where they are as many, their sum
-- further below
abbrev pub ViolationsBelowDecide : Type 0
ViolationsBelowDecide =
    (instance : Instance) (a b : List ℕ) (level : ℕ) → (cost instance a).k ≡ suc level →
    (cost instance b).k ≡ suc level →
    IsBelow (cost instance a) (cost instance b) ↔ HasFewer instance level a b
