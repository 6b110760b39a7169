-- How many paths the prefixes name, and the steps along them.
use Rattle.std.proofs.Common.{◌≡◌, ℕ, zero, suc, ◌+◌, ◌*◌, ◌/◌, ◌<◌, ◌≤◌, min, List, [], ◌∷◌, ◌++◌, length, take, drop, get_or, All, refl, sym, ap, ◌∙◌, subst, arith, ⊎_elim, drop-cons, append_assoc, length-take-le, add-one}
use Rattle.std.proofs.Math.Nat.{mul-le-mul_left, mul-div_cancel_left}
use Rattle.std.proofs.lemmas.Bool.{cases_lt}
use Rattle.std.proofs.lemmas.List.Elements.{All-tail, All-take}
use Rattle.fapp_model.specs.declared.instance.Instance.{Instance}
use Rattle.fapp_model.specs.declared.limits.TheConstants.{MAX_DEPTH}
use Rattle.fapp_model.specs.Assignments.{count_at}
use Rattle.fapp_model.specs.Instances.{IsInstance}
use Rattle.fapp_model.specs.search.Jobs.{depth, prefixes, ways}
use Rattle.fapp_model.specs.search.WorkOrder.{work_order}
use Rattle.fapp_model.proofs.WorkOrders.{order-is, order-length}
use Rattle.tries_laws.specs.JobLaws.{IsDepth}
use Rattle.tries_laws.proofs.JobParts.{depth-is, depth-greatest, depth-small}
use Rattle.tries_laws.proofs.ListPlaces.{some_count, some_ways}
use Rattle.tries_laws.proofs.Lists.{length-choice_lists}
use Rattle.fapp_plan.specs.declared.steps.Step.{Step}
use Rattle.fapp_plan.specs.NamedPaths.{prefix_paths, steps_along}

abbrev AreIn : Instance → List ℕ → Type 0
AreIn instance paths = All (λ path. path < length instance.paths) paths

pub order-in : (instance : Instance) → AreIn instance (work_order instance)
order-in instance = (order-is instance).in_range

pub prefix_paths-in : (instance : Instance) (split : ℕ) → AreIn instance (prefix_paths instance split)
prefix_paths-in instance split = All-take (λ path. path < length instance.paths) (depth instance split) (work_order instance) (order-in instance)

-- one path more multiplies by its number of choices
ways-suc : (instance : Instance) (paths : List ℕ) (n : ℕ) → n < length paths → ways instance (take (suc n) paths) ≡ ways instance (take n paths) * count_at instance (get_or paths n 0)
ways-suc instance [] n l = absurd (omega arith)
ways-suc instance (path ∷ paths) zero l = omega arith
ways-suc instance (path ∷ paths) (suc n) l =
    let c = count_at instance path in
    ap (λ w. c * w) (ways-suc instance paths n (omega arith)) ∙ regroup c (ways instance (take n paths)) (count_at instance (get_or paths n 0))
  where
    regroup : (a b d : ℕ) → a * (b * d) ≡ (a * b) * d
    regroup a b d = grind arith

pub ways-more : (instance : Instance) (paths : List ℕ) (n : ℕ) → n < length paths → ways instance (take (n + 1) paths) ≡ ways instance (take n paths) * count_at instance (get_or paths n 0)
ways-more instance paths n l = rw add-one (ways-suc instance paths n l)

-- more paths have no fewer ways
pub ways-rise : (instance : Instance) → IsInstance instance → (paths : List ℕ) (m n : ℕ) → AreIn instance paths → m ≤ n → ways instance (take m paths) ≤ ways instance (take n paths)
ways-rise instance valid paths zero n inside l = some_ways instance valid (take n paths) (All-take (λ path. path < length instance.paths) n paths inside)
ways-rise instance valid [] (suc m) n inside l = some_ways instance valid (take n []) (All-take (λ path. path < length instance.paths) n [] inside)
ways-rise instance valid (path ∷ paths) (suc m) zero inside l = absurd (omega arith)
ways-rise instance valid (path ∷ paths) (suc m) (suc n) inside l =
    mul-le-mul_left (count_at instance path) (ways-rise instance valid paths m n (All-tail (λ path. path < length instance.paths) path paths inside) (omega arith))

-- a number of paths with few enough ways, of which one more is too many or none is left, is the depth
module _ (instance : Instance) (valid : IsInstance instance) (split n : ℕ) (most : n ≤ min (length (work_order instance)) MAX_DEPTH) (some : 1 ≤ split) (fits : ways instance (take n (work_order instance)) ≤ split) where
  here : IsDepth instance split n
  here = record { most = omega arith; paths = omega (arith, order-length instance); fits = fits }

  at_least : n ≤ depth instance split
  at_least = depth-greatest instance split n here

  pub depth-past : split < ways instance (take (n + 1) (work_order instance)) → depth instance split ≡ n
  depth-past past = ⊎_elim
      (λ (more : n < depth instance split).
      let rise = ways-rise instance valid (work_order instance) (n + 1) (depth instance split) (order-in instance) (omega arith) in
      let whole = (depth-is instance split some).fits in
      absurd (omega arith))
      (λ few. let low = at_least in omega arith)
      (cases_lt n (depth instance split))

  pub depth-all : min (length (work_order instance)) MAX_DEPTH ≤ n → depth instance split ≡ n
  depth-all all =
      let is = depth-is instance split some in
      let low = at_least in
      let m = is.most in
      let p = is.paths in
      omega (arith, order-length instance)

pub depth-few : (instance : Instance) (split : ℕ) → 1 ≤ split → depth instance split ≤ MAX_DEPTH
depth-few instance split some = (depth-is instance split some).most

pub prefix_paths-length : (instance : Instance) (split : ℕ) → length (prefix_paths instance split) ≡ depth instance split
prefix_paths-length instance split =
    let small = depth-small instance split in
    length-take-le (depth instance split) (work_order instance) (omega (arith, order-length instance))

pub prefixes-count : (instance : Instance) (split : ℕ) → length (prefixes instance split) ≡ ways instance (prefix_paths instance split)
prefixes-count instance split = length-choice_lists instance (prefix_paths instance split)

-- ---- steps

pub steps_along-length : (instance : Instance) (paths : List ℕ) → length (steps_along instance paths) ≡ length paths
steps_along-length instance [] = refl
steps_along-length instance (path ∷ paths) = ap suc (steps_along-length instance paths)

-- the ways of the paths from a place on are those of the path there times those of the paths behind
pub ways-from : (instance : Instance) (paths : List ℕ) (n : ℕ) → n < length paths → ways instance (drop n paths) ≡ count_at instance (get_or paths n 0) * ways instance (drop (n + 1) paths)
ways-from instance paths n l = rw (add-one, drop-cons paths n 0) refl

pub ways-behind : (instance : Instance) (paths : List ℕ) (n behind : ℕ) → IsInstance instance → AreIn instance paths → n < length paths → behind ≡ ways instance (drop n paths) → behind / count_at instance (get_or paths n 0) ≡ ways instance (drop (n + 1) paths)
ways-behind instance paths n behind valid inside l is =
    let some : 0 < count_at instance (get_or paths n 0) = some_count instance valid (get_or paths n 0) (inside n 0 l) in
    ap (λ w. w / count_at instance (get_or paths n 0)) (is ∙ ways-from instance paths n l)
    ∙ mul-div_cancel_left (ways instance (drop (n + 1) paths)) some

-- the steps from a place on
pub steps-from : (instance : Instance) (paths : List ℕ) (n : ℕ) → n < length paths →
    steps_along instance (drop n paths) ≡ record { path = get_or paths n 0; choices = count_at instance (get_or paths n 0); ways = ways instance (drop (n + 1) paths) } ∷ steps_along instance (drop (n + 1) paths)
steps-from instance paths n l = rw (add-one, drop-cons paths n 0) refl

pub steps-drop : (instance : Instance) (paths : List ℕ) (n : ℕ) → drop n (steps_along instance paths) ≡ steps_along instance (drop n paths)
steps-drop instance paths zero = refl
steps-drop instance [] (suc n) = refl
steps-drop instance (path ∷ paths) (suc n) = steps-drop instance paths n

-- one step more
pub steps-more : (instance : Instance) (paths : List ℕ) (n path choices behind : ℕ) (steps more whole : List Step) → n < length paths →
    path ≡ get_or paths n 0 → choices ≡ count_at instance path → behind ≡ ways instance (drop (n + 1) paths) →
    more ≡ steps ++ record { path = path; choices = choices; ways = behind } ∷ [] →
    steps ++ steps_along instance (drop n paths) ≡ whole → more ++ steps_along instance (drop (n + 1) paths) ≡ whole
steps-more instance paths n path choices behind steps more whole l at many left pushed so_far =
    let rest = steps_along instance (drop (n + 1) paths) in
    let one : Step = record { path = path; choices = choices; ways = behind } in
    let same : one ∷ rest ≡ steps_along instance (drop n paths) = same_step at (many ∙ ap (count_at instance) at) left rest ∙ sym (steps-from instance paths n l) in
    subst (λ xs. xs ++ rest ≡ whole) (sym pushed) (rw append_assoc (ap (λ xs. steps ++ xs) same ∙ so_far))
  where
    same_step : {p q c d w v : ℕ} → p ≡ q → c ≡ d → w ≡ v → (rest : List Step) → record { path = p; choices = c; ways = w } ∷ rest ≡ record { path = q; choices = d; ways = v } ∷ rest
    same_step e f g rest = rw (e, f, g) refl
