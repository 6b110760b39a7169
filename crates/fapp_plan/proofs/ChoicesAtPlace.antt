-- The list of choices at a place, step by step.
use Rattle.std.proofs.Common.{◌≡◌, ℕ, zero, suc, inl, inr, ⊎_elim, ◌+◌, ◌*◌, ◌/◌, ◌%◌, ◌<◌, ◌≤◌, List, [], ◌∷◌, ◌++◌, length, drop, get_or, All, refl, sym, ap, ◌∙◌, subst, arith, drop-cons, append_assoc, add-one}
use Rattle.std.proofs.lemmas.Nat.{div_below, mod_below}
use Rattle.fapp_model.specs.declared.instance.Instance.{Instance}
use Rattle.fapp_model.specs.declared.literal.Literal.{Literal}
use Rattle.std.proofs.lemmas.List.Elements.{All-cons, All-drop, All-head, All-nil, All-tail}
use Rattle.fapp_model.specs.declared.instance.Path.{Path}
use Rattle.fapp_model.specs.Assignments.{count_at, no_path, path_at}
use Rattle.fapp_model.specs.Choices.{choices}
use Rattle.fapp_model.proofs.ChoiceLemmas.{fixed_count, free_count}
use Rattle.fapp_model.specs.Instances.{IsInstance, IsPath}
use Rattle.fapp_model.specs.search.Jobs.{ways}
use Rattle.fapp_model.specs.search.Partials.{literal}
use Rattle.fapp_model.specs.search.Prefixes.{choice_lists}
use Rattle.tries_laws.proofs.ListPlaces.{list_at_place, some_ways}
use Rattle.fapp_plan.specs.declared.steps.Step.{Step}
use Rattle.fapp_plan.specs.NamedPaths.{steps_along}
use Rattle.fapp_plan.proofs.Depths.{ways-from}
use Rattle.fapp_model.specs.declared.limits.TheConstants.{MAX_PATH_CHOICES}

abbrev pub list_at : Instance → List ℕ → ℕ → List Literal
list_at instance paths place = get_or (choice_lists instance paths) place []

-- what is left of a place in front of the paths from a step on, and the list so far
pub record IsReached (instance : Instance) (paths : List ℕ) (place n rest : ℕ) (literals : List Literal) : Type 0 where
  pub below : rest < ways instance (drop n paths)
  pub whole : literals ++ list_at instance (drop n paths) rest ≡ list_at instance paths place

count-few : (instance : Instance) → IsInstance instance → (path : ℕ) → path < length instance.paths → count_at instance path ≤ MAX_PATH_CHOICES
count-few instance valid path l = few_choices (path_at instance path) (valid.paths path no_path l)
  where
    few_choices : (path : Path) → IsPath path → length (choices path) ≤ MAX_PATH_CHOICES
    few_choices path h = ⊎_elim
        (λ e. omega (arith, fixed_count path (inl e), h.few))
        (λ u. ⊎_elim
        (λ e. omega (arith, free_count path e, h.few))
        (λ e. omega (arith, fixed_count path (inr e), h.few))
        u)
        h.polarization

-- steps have few choices
pub steps-few : (instance : Instance) → IsInstance instance → (paths : List ℕ) → All (λ path. path < length instance.paths) paths → All (λ (step : Step). step.choices ≤ MAX_PATH_CHOICES) (steps_along instance paths)
steps-few instance valid [] h = All-nil (λ (step : Step). step.choices ≤ MAX_PATH_CHOICES)
steps-few instance valid (path ∷ paths) h =
    All-cons (λ (step : Step). step.choices ≤ MAX_PATH_CHOICES) _ (steps_along instance paths)
    (count-few instance valid path (All-head (λ p. p < length instance.paths) path paths h))
    (steps-few instance valid paths (All-tail (λ p. p < length instance.paths) path paths h))

steps-suc : (instance : Instance) (paths : List ℕ) (n : ℕ) (d : Step) → n < length paths →
    get_or (steps_along instance paths) n d ≡ record { path = get_or paths n 0; choices = count_at instance (get_or paths n 0); ways = ways instance (drop (suc n) paths) }
steps-suc instance [] n d l = absurd (omega arith)
steps-suc instance (path ∷ paths) zero d l = refl
steps-suc instance (path ∷ paths) (suc n) d l = steps-suc instance paths n d (omega arith)

pub steps-at : (instance : Instance) (paths : List ℕ) (n : ℕ) (d : Step) → n < length paths →
    get_or (steps_along instance paths) n d ≡ record { path = get_or paths n 0; choices = count_at instance (get_or paths n 0); ways = ways instance (drop (n + 1) paths) }
steps-at instance paths n d l = rw add-one (steps-suc instance paths n d l)

module _ (instance : Instance) (paths : List ℕ) (valid : IsInstance instance) (inside : All (λ path. path < length instance.paths) paths) (place n rest : ℕ) (literals : List Literal) (l : n < length paths) (reached : IsReached instance paths place n rest literals) where
  pub some-ways : 0 < ways instance (drop (n + 1) paths)
  some-ways = some_ways instance valid (drop (n + 1) paths) (All-drop (λ path. path < length instance.paths) (n + 1) paths inside)

  below-here : rest < count_at instance (get_or paths n 0) * ways instance (drop (n + 1) paths)
  below-here = let b = reached.below in omega (arith, ways-from instance paths n l)

  pub small-choice : rest / ways instance (drop (n + 1) paths) < 65536
  small-choice =
      let small : rest / ways instance (drop (n + 1) paths) < count_at instance (get_or paths n 0) =
      div_below rest (ways instance (drop (n + 1) paths)) (count_at instance (get_or paths n 0)) some-ways below-here in
      omega (arith, count-few instance valid (get_or paths n 0) (inside n 0 l))

  pub reached-next : IsReached instance paths place (n + 1) (rest % ways instance (drop (n + 1) paths)) (literals ++ literal (get_or paths n 0) (rest / ways instance (drop (n + 1) paths)) ∷ [])
  reached-next =
      let w = ways instance (drop (n + 1) paths) in
      let first : drop n paths ≡ get_or paths n 0 ∷ drop (n + 1) paths = rw (add-one, drop-cons paths n 0) refl in
      let at : list_at instance (drop n paths) rest ≡ literal (get_or paths n 0) (rest / w) ∷ list_at instance (drop (n + 1) paths) (rest % w) =
      ap (λ xs. list_at instance xs rest) first ∙ list_at_place instance (get_or paths n 0) (drop (n + 1) paths) rest below-here in
      record {
        below = mod_below rest w some-ways;
        whole = rw append_assoc (ap (λ xs. literals ++ xs) (sym at) ∙ reached.whole);
      }

pub reached-start : (instance : Instance) (paths : List ℕ) (place : ℕ) → place < ways instance paths → IsReached instance paths place 0 place []
reached-start instance paths place l = record { below = l; whole = refl }

pub reached-all : (instance : Instance) (paths : List ℕ) (place n rest : ℕ) (literals : List Literal) → length paths ≤ n → IsReached instance paths place n rest literals → literals ≡ list_at instance paths place
reached-all instance paths place n rest literals l reached =
    let none : drop n paths ≡ [] = drop_past n paths l in
    let below : rest < ways instance [] = subst (λ xs. rest < ways instance xs) none reached.below in
    let zero : rest ≡ 0 = omega arith in
    let last : list_at instance (drop n paths) rest ≡ [] = ap (λ xs. list_at instance xs rest) none ∙ ap (λ k. list_at instance [] k) zero in
    sym (append_nil literals) ∙ (ap (λ xs. literals ++ xs) (sym last) ∙ reached.whole)
  where
    append_nil : (xs : List Literal) → xs ++ [] ≡ xs
    append_nil [] = refl
    append_nil (x ∷ xs) = ap (λ ys. x ∷ ys) (append_nil xs)

    drop_past : (n : ℕ) (xs : List ℕ) → length xs ≤ n → drop n xs ≡ []
    drop_past zero [] l = refl
    drop_past zero (x ∷ xs) l = absurd (omega arith)
    drop_past (suc n) [] l = refl
    drop_past (suc n) (x ∷ xs) l = drop_past n xs (omega arith)
