-- Work orders, jobs and tries of instances where they are known.
use Rattle.std.specs.Prelude.{◌≡◌, ℕ, ◌+◌, ◌-◌, ◌<◌, List, [], ◌∷◌, length}
use Rattle.fapp_model.specs.declared.instance.Instance.{Instance}
use Rattle.fapp_model.specs.declared.literal.Literal.{Literal}
use Rattle.fapp_model.specs.Assignments.{count_at}
use Rattle.fapp_model.specs.search.Jobs.{depth, job_count, job_level, job_prefix, target}
use Rattle.fapp_model.specs.search.Partials.{literal}
use Rattle.fapp_model.specs.search.Prefixes.{IsPrefix}
use Rattle.fapp_model.specs.search.Tries.{IsTries}
use Rattle.fapp_model.specs.search.WorkOrder.{work_order}
use Rattle.dead_laws.specs.ExampleInstances.{three_alike}
use Rattle.tries_laws.specs.ExampleInstances.{one_path, small_example, two_paths}

abbrev pub SmallExampleOrder : Type 0
SmallExampleOrder = work_order small_example ≡ 0 ∷ 2 ∷ 1 ∷ 3 ∷ []

-- one path has one prefix, on which each level is a job
pub record OnePathJobs : Type 0 where
  pub depth : depth one_path 64 ≡ 1
  pub prefix : job_prefix one_path 64 0 ≡ literal 0 0 ∷ []
  pub jobs : job_count one_path 64 ≡ 12

-- the first of the jobs on all choices of three paths: the last level on the first choices
pub record ThreeAlikeJobs : Type 0 where
  pub depth : depth three_alike 64 ≡ 3
  pub jobs : job_count three_alike 64 ≡ 96
  pub level : job_level three_alike 0 ≡ 11
  pub prefix : job_prefix three_alike 64 0 ≡ literal 0 0 ∷ literal 1 0 ∷ literal 2 0 ∷ []

-- Where one way to choose must be enough, no path is chosen beforehand. Two paths at level 0 take
-- three tries: no choice, the second choice of the first path, and both choices.
pub record TwoPathsTries : Type 0 where
  pub depth : depth two_paths 1 ≡ 0
  pub prefix : job_prefix two_paths 1 11 ≡ []
  pub level : job_level two_paths 11 ≡ 0
  pub tries : IsTries two_paths (target 0) [] 3

-- instances without records, of which each path has one choice
pub record IsWithoutRecords (instance : Instance) : Type 0 where
  pub records : instance.records ≡ []
  pub one : (path : ℕ) → path < length instance.paths → count_at instance path ≡ 1

-- They are tried path by path.
abbrev pub FreeTries : Type 0
FreeTries =
    (instance : Instance) (level : ℕ) (prefix : List Literal) → IsWithoutRecords instance →
    IsPrefix instance prefix →
    IsTries instance (target level) prefix (length instance.paths - length prefix + 1)

-- The most paths that an instance has take 8,129 tries in each job.
abbrev pub MostPathsTries : Type 0
MostPathsTries =
    (instance : Instance) (id : ℕ) → IsWithoutRecords instance → length instance.paths ≡ 8192 →
    id < job_count instance 64 →
    IsTries instance (target (job_level instance id)) (job_prefix instance 64 id) 8129
