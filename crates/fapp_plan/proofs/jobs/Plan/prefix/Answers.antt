use Rattle.std.proofs.Common.{◌≡◌, ℕ, ◌+◌, ◌/◌, ◌%◌, ◌<◌, List, [], ◌∷◌, ◌++◌, length, drop, get_or, sym, ap, ◌∙◌, subst, arith}
use Rattle.fapp_model.specs.declared.instance.Instance.{Instance}
use Rattle.fapp_model.specs.declared.literal.Literal.{Literal}
use Rattle.fapp_model.specs.Instances.{IsInstance}
use Rattle.fapp_model.specs.search.Jobs.{prefixes, ways}
use Rattle.fapp_plan.specs.declared.steps.Step.{Step}
use Rattle.fapp_plan.specs.Plans.{Split, split_of}
use Rattle.fapp_plan.specs.NamedPaths.{prefix_paths, steps_along}
use Rattle.fapp_plan.proofs.Depths.{prefix_paths-in, prefixes-count, steps_along-length}
use Rattle.fapp_plan.proofs.ChoicesAtPlace.{IsReached, reached-all, reached-next, small-choice, some-ways, steps-at}
use Rattle.fapp_plan.proofs.jobs.Plan.prefix.Goals as goal

abbrev no_step : Step
no_step = record { path = 0; choices = 0; ways = 0 }

-- the step at a place, by the paths
step_of : (instance : Instance) (paths : List ℕ) (steps : List Step) (n : ℕ) → steps ≡ steps_along instance paths → n < length steps →
    (get_or steps n no_step).ways ≡ ways instance (drop (n + 1) paths)
step_of instance paths steps n is l =
    ap (λ xs. (get_or xs n no_step).ways) is ∙ ap (λ (s : Step). s.ways) (steps-at instance paths n no_step (omega (arith, ap length is, steps_along-length instance paths)))

module _ (v : Split) (valid : IsInstance v.instance) (steps : List Step) (is : steps ≡ steps_along v.instance (prefix_paths v.instance v.split)) (place n rest : ℕ) (literals : List Literal) (l : n < length steps)
    (reached : IsReached v.instance (prefix_paths v.instance v.split) place n rest literals) where
  inside : n < length (prefix_paths v.instance v.split)
  inside = omega (arith, ap length is, steps_along-length v.instance (prefix_paths v.instance v.split))

  here : (get_or steps n no_step).ways ≡ ways v.instance (drop (n + 1) (prefix_paths v.instance v.split))
  here = step_of v.instance (prefix_paths v.instance v.split) steps n is l

  some : 0 < (get_or steps n no_step).ways
  some = omega (arith, here, some-ways v.instance (prefix_paths v.instance v.split) valid (prefix_paths-in v.instance v.split) place n rest literals inside reached)

  fits : rest / (get_or steps n no_step).ways < 65536
  fits = rw here (small-choice v.instance (prefix_paths v.instance v.split) valid (prefix_paths-in v.instance v.split) place n rest literals inside reached)

small : (v w : Split) → v ≡ w → (place : ℕ) → place < length (prefixes w.instance w.split) → place < ways v.instance (prefix_paths v.instance v.split)
small v w same place l =
    let count = ap (λ (u : Split). length (prefixes u.instance u.split)) same in
    omega (arith, count, prefixes-count v.instance v.split)

pub nonzero_div-rest : goal.nonzero_div-rest
nonzero_div-rest c =
    let is = c.deref-step-items.ensures.value ∙ c.self.invariant.along in
    let v = split_of c.self.inside.instance.now c.self.inside.split in
    some v c.self.invariant.valid c.deref-step-items.result.now is c.args.place c.loop-step.step-index c.loop-step.rest c.loop-step.prefix.items c.loop-step-test.true
    (c.loop-step.invariant v.instance (prefix_paths v.instance v.split) c.self.invariant.valid (prefix_paths-in v.instance v.split) is (small v c.args.self.now c.self.view_is c.args.place c.requires))

pub nonzero_rem-rest : goal.nonzero_rem-rest
nonzero_rem-rest c =
    let is = c.deref-step-items.ensures.value ∙ c.self.invariant.along in
    let v = split_of c.self.inside.instance.now c.self.inside.split in
    some v c.self.invariant.valid c.deref-step-items.result.now is c.args.place c.loop-step.step-index c.loop-step.rest c.loop-step.prefix.items c.loop-step-test.true
    (c.loop-step.invariant v.instance (prefix_paths v.instance v.split) c.self.invariant.valid (prefix_paths-in v.instance v.split) is (small v c.args.self.now c.self.view_is c.args.place c.requires))

pub overflow_cast-rest : goal.overflow_cast-rest
overflow_cast-rest c =
    let is = c.deref-step-items.ensures.value ∙ c.self.invariant.along in
    let v = split_of c.self.inside.instance.now c.self.inside.split in
    let low = fits v c.self.invariant.valid c.deref-step-items.result.now is c.args.place c.loop-step.step-index c.loop-step.rest c.loop-step.prefix.items c.loop-step-test.true
    (c.loop-step.invariant v.instance (prefix_paths v.instance v.split) c.self.invariant.valid (prefix_paths-in v.instance v.split) is (small v c.args.self.now c.self.view_is c.args.place c.requires)) in
    omega arith

pub loop-step-preserved : goal.loop-step-preserved
loop-step-preserved c instance paths valid within is low =
    let n = c.loop-step.step-index in
    let steps = c.deref-step-items.result.now in
    let l : n < length paths = omega (arith, c.loop-step-test.true, ap length is, steps_along-length instance paths) in
    let step = ap (λ (xs : List Step). get_or xs n no_step) is ∙ steps-at instance paths n no_step l in
    let next = reached-next instance paths valid within c.args.place n c.loop-step.rest c.loop-step.prefix.items l (c.loop-step.invariant instance paths valid within is low) in
    moved instance paths c.args.place (n + 1) c.loop-step.rest c.loop-step.prefix.items c.push.new.self.items (get_or steps n no_step) _ step c.in_ok-push.ensures.items next
  where
    moved : (instance : Instance) (paths : List ℕ) (place n rest : ℕ) (so_far more : List Literal) (step known : Step) → step ≡ known →
        more ≡ so_far ++ record { path = step.path; choice = rest / step.ways } ∷ [] →
        IsReached instance paths place n (rest % known.ways) (so_far ++ record { path = known.path; choice = rest / known.ways } ∷ []) →
        IsReached instance paths place n (rest % step.ways) more
    moved instance paths place n rest so_far more step known same pushed h =
        subst (λ xs. IsReached instance paths place n (rest % step.ways) xs) (sym pushed)
        (subst (λ (s : Step). IsReached instance paths place n (rest % s.ways) (so_far ++ record { path = s.path; choice = rest / s.ways } ∷ [])) (sym same) h)

pub returns : goal.returns
returns c =
    let instance = c.self.inside.instance.now in
    let paths = prefix_paths instance c.self.inside.split in
    let is : c.deref-step-items.result.now ≡ steps_along instance paths = c.deref-step-items.ensures.value ∙ c.self.invariant.along in
    let low = small (split_of instance c.self.inside.split) c.args.self.now c.self.view_is c.args.place c.requires in
    let whole = reached-all instance paths c.args.place c.loop-step.step-index c.loop-step.rest c.loop-step.prefix.items (omega (arith, c.loop-step-test.false, ap length is, steps_along-length instance paths))
    (c.loop-step.invariant instance paths c.self.invariant.valid (prefix_paths-in instance c.self.inside.split) is low) in
    c.from_vec.ensures ∙ (whole ∙ ap (λ (v : Split). get_or (prefixes v.instance v.split) c.args.place []) c.self.view_is)
