-- What a plan of jobs is made for, and what it keeps.
use Rattle.std.specs.Prelude.{◌≡◌, ℕ, ◌≤◌, List, length}
use Rattle.fapp_model.specs.declared.instance.Instance.{Instance}
use Rattle.fapp_model.specs.Instances.{IsInstance}
use Rattle.fapp_model.specs.search.Jobs.{prefixes}
use Rattle.fapp_plan.specs.declared.steps.Step.{Step}
use Rattle.fapp_plan.specs.NamedPaths.{prefix_paths, steps_along}
use Rattle.fapp_model.specs.declared.limits.TheConstants.{MAX_SPLIT}

-- the instance, and the most prefixes that it is split into
pub record Split : Type 0 where
  pub instance : Instance
  pub split : ℕ

abbrev pub split_of : Instance → ℕ → Split
split_of instance split = record { instance = instance; split = split }

pub record IsPlan (instance : Instance) (split : ℕ) (steps : List Step)
    (prefixes_count : ℕ) : Type 0 where
  pub valid : IsInstance instance
  pub some : 1 ≤ split
  pub few : split ≤ MAX_SPLIT
  pub along : steps ≡ steps_along instance (prefix_paths instance split)
  pub count : prefixes_count ≡ length (prefixes instance split)
