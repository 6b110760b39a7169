-- The paths that every job's prefix names.
use Rattle.std.specs.Prelude.{ℕ, List, [], ◌∷◌, take}
use Rattle.fapp_model.specs.declared.instance.Instance.{Instance}
use Rattle.fapp_model.specs.Assignments.{count_at}
use Rattle.fapp_model.specs.search.Jobs.{depth, ways}
use Rattle.fapp_model.specs.search.WorkOrder.{work_order}
use Rattle.fapp_plan.specs.declared.steps.Step.{Step}

-- each path, with its number of choices and with how many ways to choose the paths behind it have
abbrev pub steps_along : Instance → List ℕ → List Step
steps_along instance [] = []
steps_along instance (path ∷ paths) =
    record { path = path; choices = count_at instance path; ways = ways instance paths }
    ∷ steps_along instance paths

-- the paths of the prefixes, in the work order
abbrev pub prefix_paths : Instance → ℕ → List ℕ
prefix_paths instance split = take (depth instance split) (work_order instance)
