-- What holds of jobs.
use Rattle.std.specs.Prelude.{◌≡◌, ◌≢◌, ◌↔◌, ℕ, ◌+◌, ◌/◌, ◌<◌, ◌≤◌, List, [], length, take, slice_index_or, AllPairs, Contains}
use Rattle.fapp_model.specs.declared.instance.Instance.{Instance}
use Rattle.fapp_model.specs.declared.limits.TheConstants.{MAX_DEPTH}
use Rattle.fapp_model.specs.declared.literal.Literal.{Literal}
use Rattle.fapp_model.specs.Assignments.{IsAssignment}
use Rattle.fapp_model.specs.Instances.{IsInstance}
use Rattle.fapp_model.specs.search.Jobs.{IsJob, depth, job_count, job_level, job_number, job_prefix, prefixes, target, ways}
use Rattle.fapp_model.specs.Levels.{levels_of}
use Rattle.fapp_model.specs.search.Partials.{Extends}
use Rattle.fapp_model.specs.search.Prefixes.{IsListBefore, IsPrefix}
use Rattle.fapp_model.specs.Tags.{IsTagOf}
use Rattle.fapp_model.specs.search.WorkOrder.{work_order}

-- A job's target is a tag.
abbrev pub TargetsAreTags : Type 0
TargetsAreTags =
    (instance : Instance) (level : ℕ) → level ≤ levels_of instance → IsTagOf instance (target level)

-- a number of paths, of which the first of the work order have at most so many ways to choose
pub record IsDepth (instance : Instance) (split d : ℕ) : Type 0 where
  pub most : d ≤ MAX_DEPTH
  pub paths : d ≤ length instance.paths
  pub fits : ways instance (take d (work_order instance)) ≤ split

-- The depth is the greatest such number, where the split number is at least 1.
pub record DepthIsGreatest : Type 0 where
  pub is : (instance : Instance) (split : ℕ) → 1 ≤ split →
      IsDepth instance split (depth instance split)
  pub greatest : (instance : Instance) (split d : ℕ) → IsDepth instance split d →
      d ≤ depth instance split

-- The prefixes of jobs are all prefixes as long as the depth, each once and in the order of their
-- choices' indices. There are no more than the split number, and a valid instance has one.
pub record PrefixesAreAll : Type 0 where
  pub all : (instance : Instance) (split : ℕ) (literals : List Literal) →
      Contains (prefixes instance split) literals ↔ (IsPrefix instance literals
      × (length literals ≡ depth instance split))
  pub ordered : (instance : Instance) (split : ℕ) → AllPairs IsListBefore (prefixes instance split)
  pub once : (instance : Instance) (split : ℕ) → AllPairs (λ a b. a ≢ b) (prefixes instance split)
  pub few : (instance : Instance) (split : ℕ) → 1 ≤ split → length (prefixes instance split) ≤ split
  pub some : (instance : Instance) (split : ℕ) → IsInstance instance →
      0 < length (prefixes instance split)

-- Each assignment extends one prefix of the jobs.
pub record AssignmentsHavePrefixes : Type 0 where
  pub some : (instance : Instance) (split : ℕ) (plan : List ℕ) → IsAssignment instance plan →
      (prefix : List Literal) × Contains (prefixes instance split) prefix × Extends plan prefix
  pub one : (instance : Instance) (split : ℕ) (plan : List ℕ) (a b : List Literal) →
      Contains (prefixes instance split) a →
      Contains (prefixes instance split) b → Extends plan a → Extends plan b → a ≡ b

-- Each number below the count is that of one job, and each job has one such number.
pub record JobsByNumber : Type 0 where
  pub is : (instance : Instance) (split id : ℕ) → id < job_count instance split →
      IsJob instance split (job_level instance id) (job_prefix instance split id)
  pub below : (instance : Instance) (split place level : ℕ) →
      place < length (prefixes instance split) →
      level ≤ levels_of instance → job_number instance place level < job_count instance split
  pub number : (instance : Instance) (id : ℕ) →
      job_number instance (id / (levels_of instance + 1)) (job_level instance id) ≡ id
  pub level : (instance : Instance) (place level : ℕ) → level ≤ levels_of instance →
      job_level instance (job_number instance place level) ≡ level
  pub prefix : (instance : Instance) (split place level : ℕ) →
      job_prefix instance split (job_number instance place level)
      ≡ slice_index_or (prefixes instance split) place []
