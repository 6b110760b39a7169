use Rattle.std.proofs.Common.{◌≡◌, ◌≤◌, List, All, sym, ◌∙◌, subst}
use Rattle.fapp_plan.specs.declared.steps.Step.{Step}
use Rattle.fapp_plan.specs.NamedPaths.{prefix_paths, steps_along}
use Rattle.fapp_plan.proofs.Depths.{prefix_paths-in}
use Rattle.fapp_plan.proofs.ChoicesAtPlace.{steps-few}
use Rattle.fapp_plan.proofs.jobs.Plan.steps.Goals as goal
use Rattle.fapp_model.specs.declared.limits.TheConstants.{MAX_PATH_CHOICES}

pub returns-clause-few : goal.returns-clause-few
returns-clause-few c =
    let instance = c.self.inside.instance.now in
    let paths = prefix_paths instance c.self.inside.split in
    let is : c.as_slice.result.now ≡ steps_along instance paths = c.as_slice.ensures.value ∙ c.self.invariant.along in
    subst (λ (steps : List Step). All (λ step. step.choices ≤ MAX_PATH_CHOICES) steps) (sym is) (steps-few instance c.self.invariant.valid paths (prefix_paths-in instance c.self.inside.split))
