-- Implied partial assignments: other tags, more literals, all choices of a path.
use Rattle.std.proofs.Common.{◌≡◌, ◌⊎◌, ℕ, ◌<◌, List, ◌∷◌, length, get_or, refl, subst, inl, inr, arith, slice_index}
use Rattle.std.proofs.lemmas.List.Elements.{All-contains, All-cons}
use Rattle.fapp_model.specs.declared.instance.Instance.{Instance}
use Rattle.fapp_model.specs.declared.literal.Literal.{Literal}
use Rattle.fapp_model.specs.declared.triple.Triple.{Triple}
use Rattle.fapp_model.specs.Assignments.{count_at}
use Rattle.fapp_model.specs.Costs.{cost, cost_by, violations}
use Rattle.fapp_model.specs.search.Implied.{Implied}
use Rattle.fapp_model.specs.Least.{IsFeasible}
use Rattle.fapp_model.specs.Levels.{levels_of}
use Rattle.fapp_model.specs.search.Partials.{literal, Extends}
use Rattle.fapp_model.specs.Tags.{top_tag}
use Rattle.fapp_model.specs.Triples.{IsBelow}
use Rattle.fapp_model.specs.search.Partials.{HasAll}
use Rattle.fapp_model.specs.Triples.{IsAtMost}
use Rattle.fapp_model.proofs.ClearLevels.{clear-le}

pub IsBelow-trans : (t u w : Triple) → IsBelow t u → IsBelow u w → IsBelow t w
IsBelow-trans t u w (inl h) (inl g) = inl (omega arith)
IsBelow-trans t u w (inl h) (inr (same, g)) = inl (omega arith)
IsBelow-trans t u w (inr (same, h)) (inl g) = inl (omega arith)
IsBelow-trans t u w (inr (same, inl h)) (inr (also, inl g)) = inr (omega arith, inl (omega arith))
IsBelow-trans t u w (inr (same, inl h)) (inr (also, inr g)) = inr (omega arith, inl (omega (arith, g.0)))
IsBelow-trans t u w (inr (same, inr h)) (inr (also, inl g)) = inr (omega arith, inl (omega (arith, h.0)))
IsBelow-trans t u w (inr (same, inr h)) (inr (also, inr g)) = inr (omega arith, inr (omega (arith, h.0, g.0), omega (arith, h.1, g.1)))

pub Implied-lower : (instance : Instance) (t u : Triple) (literals : List Literal) → IsAtMost u t → Implied instance t literals → Implied instance u literals
Implied-lower instance t u literals (inl less) h = λ plan feasible extends below. h plan feasible extends (IsBelow-trans (cost instance plan) u t below less)
Implied-lower instance t u literals (inr same) h = λ plan feasible extends below. h plan feasible extends (subst (λ w. IsBelow (cost instance plan) w) same below)

pub Implied-greater : (instance : Instance) (t u greater : Triple) (literals : List Literal) → (greater ≡ t) ⊎ (greater ≡ u) → Implied instance t literals → Implied instance u literals → Implied instance greater literals
Implied-greater instance t u greater literals (inl same) h g = Implied-lower instance t greater literals (inr same) h
Implied-greater instance t u greater literals (inr same) h g = Implied-lower instance u greater literals (inr same) g

pub Extends-fewer : (plan : List ℕ) (literals more : List Literal) → HasAll more literals → Extends plan more → Extends plan literals
Extends-fewer plan literals more h extends = λ k d l. All-contains (λ a. slice_index plan a.path ≡ a.choice) more (get_or literals k d) extends (h k d l)

pub Implied-more : (instance : Instance) (t : Triple) (literals more : List Literal) → HasAll more literals → Implied instance t literals → Implied instance t more
Implied-more instance t literals more has h = λ plan feasible extends. h plan feasible (Extends-fewer plan literals more has extends)

pub Implied-branch : (instance : Instance) (t : Triple) (literals : List Literal) (path : ℕ) → path < length instance.paths → ((index : ℕ) → index < count_at instance path → Implied instance t (literal path index ∷ literals)) → Implied instance t literals
Implied-branch instance t literals path small h = λ plan feasible extends.
    h (slice_index plan path) (feasible.assignment.in_range path small) plan feasible
    (All-cons (λ a. slice_index plan a.path ≡ a.choice) (literal path (slice_index plan path)) literals refl extends)

pub none-at-top : (instance : Instance) (plan : List ℕ) (literals : List Literal) → Implied instance (top_tag instance) literals → IsFeasible instance plan → Extends plan literals → ⊥
unfolding cost_by
none-at-top instance plan literals h feasible extends =
    h plan feasible extends (inl (omega (arith, clear-le (levels_of instance) (violations instance plan))))
