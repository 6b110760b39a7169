-- How many lines a certificate has at most.
use Rattle.std.specs.Prelude.{◌≡◌, ℕ, ◌+◌, ◌<◌, min, length, take, sum_by}
use Rattle.std.specs.List.{range_with_len}
use Rattle.fapp_model.specs.declared.instance.Instance.{Instance}
use Rattle.fapp_model.specs.Choices.{choices}
use Rattle.fapp_model.specs.search.Jobs.{depth, job_count, job_level, job_prefix, target}
use Rattle.fapp_model.specs.search.Prefixes.{lists_along}
use Rattle.fapp_model.specs.search.Tries.{IsTries}
use Rattle.fapp_model.specs.search.WorkOrder.{work_order}

-- the choices of all paths
abbrev pub choice_total : Instance → ℕ
choice_total instance = sum_by (λ path. length (choices path)) instance.paths

-- the lists of choices along the work order that are at most as long as a job's prefix
abbrev pub tree_size : Instance → ℕ → ℕ
tree_size instance split =
    length (lists_along instance (take (depth instance split) (work_order instance)))

-- one line a choice and a list of choices, one more, and for each job its tries or its fuel,
-- whichever is less
pub record IsMostLines (instance : Instance) (fuel split most : ℕ) : Type 0 where
  pub tries : ℕ → ℕ
  pub counted : (id : ℕ) → id < job_count instance split →
      IsTries instance (target (job_level instance id)) (job_prefix instance split id) (tries id)
  pub total : most ≡ choice_total instance + tree_size instance split + 1
      + sum_by (λ id. min fuel (tries id)) (range_with_len 0 (job_count instance split))
