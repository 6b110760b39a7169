use Rattle.std.proofs.Common.{◌≡◌, ℕ, ◌<◌, List, length, All}
use Rattle.fapp_model.specs.declared.instance.Instance.{Instance}
use Rattle.fapp_model.specs.Instances.{IsInstance}
use Rattle.fapp_model.specs.search.Jobs.{ways}
use Rattle.fapp_plan.specs.NamedPaths.{steps_along}
use Rattle.fapp_plan.proofs.ChoicesAtPlace.{IsReached}
use Rattle.fapp_plan.proofs.jobs.Plan.prefix.Given as goal

abbrev pub invariant-loop-step : goal.invariant-loop-step
invariant-loop-step l = (instance : Instance) (paths : List ℕ) → IsInstance instance → All (λ path. path < length instance.paths) paths →
    l.step-items ≡ steps_along instance paths → l.fn.place < ways instance paths →
    IsReached instance paths l.fn.place l.step-index l.rest l.prefix.items
