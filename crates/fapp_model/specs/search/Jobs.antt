-- How the work is split into jobs: each level on each prefix of one length.
use Rattle.std.specs.Prelude.{ℕ, zero, suc, ◌+◌, ◌-◌, ◌*◌, ◌/◌, ◌%◌, ◌≤◌, min, Bool, nat_le, if◌then◌else◌, List, [], ◌∷◌, length, take, slice_index_or, Contains}
use Rattle.fapp_model.specs.declared.instance.Instance.{Instance}
use Rattle.fapp_model.specs.declared.limits.TheConstants.{MAX_DEPTH}
use Rattle.fapp_model.specs.declared.literal.Literal.{Literal}
use Rattle.fapp_model.specs.declared.triple.Triple.{Triple}
use Rattle.fapp_model.specs.Assignments.{count_at}
use Rattle.fapp_model.specs.Levels.{levels_of}
use Rattle.fapp_model.specs.search.Prefixes.{choice_lists}
use Rattle.fapp_model.specs.search.WorkOrder.{work_order}

-- the product of the numbers of choices of some paths
abbrev pub ways : Instance → List ℕ → ℕ
ways instance [] = 1
ways instance (path ∷ paths) = count_at instance path * ways instance paths

-- the greatest number up to n that passes a test, or 0
abbrev pub greatest_to : (ℕ → Bool) → ℕ → ℕ
greatest_to test zero = 0
greatest_to test (suc n) = if test (suc n) then suc n else greatest_to test n

-- how many paths a job's prefix names: the most, up to MAX_DEPTH, that have together at most so
-- many ways to choose
unfoldable pub depth : Instance → ℕ → ℕ
depth instance split =
    greatest_to (λ d. nat_le (ways instance (take d (work_order instance))) split)
    (min MAX_DEPTH (length instance.paths))

-- the prefixes of that length, as their choices' indices order them
abbrev pub prefixes : Instance → ℕ → List (List Literal)
prefixes instance split = choice_lists instance (take (depth instance split) (work_order instance))

-- a level on one of the prefixes
pub record IsJob (instance : Instance) (split level : ℕ) (prefix : List Literal) : Type 0 where
  pub in_range : level ≤ levels_of instance
  pub planned : Contains (prefixes instance split) prefix

-- the tag at which a job of a level judges
abbrev pub target : ℕ → Triple
target level = record { k = level + 1; v = 0; s = 0 }

abbrev pub job_count : Instance → ℕ → ℕ
job_count instance split = (levels_of instance + 1) * length (prefixes instance split)

-- Jobs are numbered prefix by prefix, and on each prefix from the last level down to 0.
abbrev pub job_number : Instance → ℕ → ℕ → ℕ
job_number instance place level = (levels_of instance + 1) * place + (levels_of instance - level)

abbrev pub job_level : Instance → ℕ → ℕ
job_level instance id = levels_of instance - id % (levels_of instance + 1)

abbrev pub job_prefix : Instance → ℕ → ℕ → List Literal
job_prefix instance split id =
    slice_index_or (prefixes instance split) (id / (levels_of instance + 1)) []
