-- Two paths at level 0: three tries.
use Rattle.std.proofs.Common.{◌≡◌, ◌⊎◌, ℕ, zero, suc, ◌<◌, true, false, ◌&&◌, ◌||◌, eqb, List, [], ◌∷◌, length, All, IsTrue, refl, sym, ap, subst, inl, inr, ⊎_elim, arith}
use Rattle.std.proofs.lemmas.Bool.{or_cases, and_parts, eqb-true, true≢false}
use Rattle.std.proofs.lemmas.List.Elements.{All-cons, All-nil}
use Rattle.fapp_model.specs.declared.literal.Literal.{Literal}
use Rattle.fapp_model.specs.search.Arcs.{OutsideArc}
use Rattle.fapp_model.specs.Assignments.{count_at}
use Rattle.fapp_model.specs.search.Clashes.{clashes, clashes_with, shares_record}
use Rattle.fapp_model.specs.search.Dead.{Dead, no_choice_left}
use Rattle.fapp_model.specs.search.Jobs.{target}
use Rattle.fapp_model.specs.search.Partials.{literal}
use Rattle.fapp_model.specs.Tags.{mode_level}
use Rattle.fapp_model.specs.search.Tries.{IsTries, IsTriesBy}
use Rattle.fapp_model.specs.search.WorkOrder.{work_order}
use Rattle.tries_laws.specs.ExampleInstances.{two_paths}
use Rattle.tries_laws.proofs.AlivePlans.{IsClear, IsOf, not_dead}

-- the second choice of path 0, and the one of path 1
abbrev plan : ℕ → ℕ
plan zero = 1
plan (suc p) = 0

chosen_in_range : (p : ℕ) → p < length two_paths.paths → plan p < count_at two_paths p
unfolding two_paths
chosen_in_range zero l = omega arith
chosen_in_range (suc zero) l = omega arith
chosen_in_range (suc (suc p)) l = absurd (omega arith)

chosen_apart : (p q : ℕ) → p < length two_paths.paths → q < length two_paths.paths → clashes two_paths 0 (literal p (plan p)) (literal q (plan q)) ≡ false
unfolding two_paths
chosen_apart zero zero l m = refl
chosen_apart zero (suc zero) l m = refl
chosen_apart (suc zero) zero l m = refl
chosen_apart (suc zero) (suc zero) l m = refl
chosen_apart zero (suc (suc q)) l m = absurd (omega arith)
chosen_apart (suc zero) (suc (suc q)) l m = absurd (omega arith)
chosen_apart (suc (suc p)) q l m = absurd (omega arith)

chosen_shared : (p q : ℕ) → p < length two_paths.paths → shares_record two_paths p q ≡ true → q < length two_paths.paths
unfolding two_paths
chosen_shared p q l h = ⊎_elim
    (λ one. ⊎_elim
    (λ forth. let e = eqb-true 1 q (and_parts (eqb 0 p) (eqb 1 q) forth).1 in omega arith)
    (λ back. let e = eqb-true 0 q (and_parts (eqb 0 q) (eqb 1 p) back).0 in omega arith)
    (or_cases (eqb 0 p && eqb 1 q) (eqb 0 q && eqb 1 p) one))
    (λ none. absurd (true≢false (sym none)))
    (or_cases ((eqb 0 p && eqb 1 q) || (eqb 0 q && eqb 1 p)) false h)

clear : IsClear two_paths (mode_level (target 0)) plan
clear = record { in_range = chosen_in_range; apart = chosen_apart; shared = chosen_shared }

alive : (literals : List Literal) → All (IsOf two_paths plan) literals → Dead two_paths (target 0) literals → ⊥
alive literals all = not_dead two_paths (target 0) plan clear (λ e. absurd (let k : 1 ≡ 0 = ap (λ t. t.k) e in omega arith)) refl literals all

first_on : IsOf two_paths plan (literal 0 1)
unfolding two_paths
first_on = record { path = omega arith; choice = refl }

second_on : IsOf two_paths plan (literal 1 0)
unfolding two_paths
second_on = record { path = omega arith; choice = refl }

-- the first choice of path 0 leaves path 1 none
first_dead : Dead two_paths (target 0) (literal 0 0 ∷ [])
unfolding two_paths
first_dead = no_choice_left 1 (omega arith) refl none
  where
    none : (index : ℕ) → index < count_at two_paths 1 → OutsideArc two_paths (mode_level (target 0)) (literal 1 index) ⊎ IsTrue (clashes_with two_paths (mode_level (target 0)) (literal 0 0 ∷ []) (literal 1 index))
    none zero l = inr refl
    none (suc index) l = absurd (omega arith)

-- ---- the tries

last_tries : (index : ℕ) → index < count_at two_paths 1 → IsTriesBy (Dead two_paths (target 0)) (count_at two_paths) [] (literal 0 1 ∷ literal 1 index ∷ []) 1
unfolding two_paths
last_tries zero l = inr (
  alive (literal 0 1 ∷ literal 1 0 ∷ [])
      (All-cons (IsOf two_paths plan) (literal 0 1) (literal 1 0 ∷ []) first_on (All-cons (IsOf two_paths plan) (literal 1 0) [] second_on (All-nil (IsOf two_paths plan)))),
  (0, refl, refl),
)
last_tries (suc index) l = absurd (omega arith)

abbrev below_first : ℕ → ℕ
below_first zero = 0
below_first (suc index) = 2

next_tries : (index : ℕ) → index < count_at two_paths 0 → IsTriesBy (Dead two_paths (target 0)) (count_at two_paths) (1 ∷ []) (literal 0 index ∷ []) (below_first index)
unfolding two_paths
next_tries zero l = inl (first_dead, refl)
next_tries (suc zero) l = inr (
  alive (literal 0 1 ∷ [])
      (All-cons (IsOf two_paths plan) (literal 0 1) [] first_on (All-nil (IsOf two_paths plan))),
  (1, refl, record { part = λ index. 1; each = last_tries; sum = refl }),
)
next_tries (suc (suc index)) l = absurd (omega arith)

two_paths_order : work_order two_paths ≡ 0 ∷ 1 ∷ []
unfolding work_order two_paths
two_paths_order = refl

all_tries : IsTriesBy (Dead two_paths (target 0)) (count_at two_paths) (0 ∷ 1 ∷ []) [] 3
unfolding two_paths
all_tries = inr (alive [] (All-nil (IsOf two_paths plan)), (2, refl, record { part = below_first; each = next_tries; sum = refl }))

pub two_paths-tries : IsTries two_paths (target 0) [] 3
two_paths-tries = subst (λ paths. IsTriesBy (Dead two_paths (target 0)) (count_at two_paths) paths [] 3) (sym two_paths_order) all_tries
