-- Prefixes that name every path, and the plan that they are.
use Rattle.std.proofs.Common.{◌≡◌, ℕ, ◌<◌, ◌≤◌, eqb, List, [], ◌∷◌, length, Contains, slice_index, sym, ap, subst, ◌∙◌, inl, inr, ⊎_elim, arith}
use Rattle.std.proofs.lemmas.Bool.{cases_lt, eq-eqb}
use Rattle.std.proofs.lemmas.List.{same_lists, get_or_default}
use Rattle.std.proofs.lemmas.List.Elements.{All-contains}
use Rattle.fapp_model.specs.declared.instance.Instance.{Instance}
use Rattle.fapp_model.specs.declared.literal.Literal.{Literal}
use Rattle.fapp_model.specs.declared.triple.Triple.{Triple}
use Rattle.fapp_model.specs.Assignments.{IsAssignment}
use Rattle.fapp_model.specs.Costs.{cost}
use Rattle.fapp_model.specs.Instances.{IsInstance}
use Rattle.fapp_model.specs.Least.{IsFeasible}
use Rattle.fapp_model.specs.Levels.{levels_of}
use Rattle.fapp_model.specs.Tags.{IsTagOf, code_of, triple_from}
use Rattle.fapp_model.specs.Triples.{IsAtMost, IsBelow}
use Rattle.fapp_model.specs.search.Dead.{Dead}
use Rattle.fapp_model.specs.search.Implied.{Implied}
use Rattle.fapp_model.specs.search.Partials.{Extends, IsPartial}
use Rattle.fapp_model.specs.search.Prefixes.{IsAlong, IsPrefix}
use Rattle.fapp_model.specs.search.WorkOrder.{work_order}
use Rattle.fapp_model.proofs.Anys.{any-member}
use Rattle.fapp_model.proofs.LevelNumbers.{levels-few}
use Rattle.fapp_model.proofs.Members.{at_front, behind, front_or_behind, no_member}
use Rattle.fapp_model.proofs.WorkOrders.{order-is}
use Rattle.cert_lines.proofs.Codes.{small_tag, triple_from-code_of}
use Rattle.dead_laws.specs.DeadLaws.{NamesAll}
use Rattle.dead_laws.proofs.CostLaws.{cost-tag}
use Rattle.dead_laws.proofs.DeadFull.{implied-dead}
use Rattle.dead_laws.proofs.ImpliedLemmas.{IsBelow-trans}
use Rattle.fapp_model.proofs.CodeOrder.{codes-at_most}
use Rattle.tries_laws.proofs.PrefixParts.{prefix-is_partial}

-- a literal of each path stands among literals along at most so many paths
along-has : (instance : Instance) (paths : List ℕ) (literals : List Literal) (path : ℕ) → IsAlong instance paths literals → length paths ≤ length literals → Contains paths path → (a : Literal) × Contains literals a × (a.path ≡ path)
along-has instance [] literals path along full has = absurd (no_member path has)
along-has instance (p ∷ paths) [] path along full has = absurd (omega arith)
along-has instance (p ∷ paths) (a ∷ literals) path along full has = ⊎_elim
    (λ here. (a, at_front a literals, along.0 ∙ here))
    (λ later. let r = along-has instance paths literals path along.2 (omega arith) later in (r.0, behind a literals r.0 r.1, r.2))
    (front_or_behind p paths path has)

-- tags that are not below one another
itself : (t : Triple) → IsBelow t t → ⊥
itself t (inl h) = omega arith
itself t (inr (e, inl h)) = omega arith
itself t (inr (e, inr (g, h))) = omega arith

pub not-below : (t u : Triple) → IsAtMost u t → IsBelow t u → ⊥
not-below t u (inl h) g = itself u (IsBelow-trans u t u h g)
not-below t u (inr e) g = itself u (subst (λ w. IsBelow w u) (sym e) g)

-- the triple of a cost's code is the cost
pub cost-back : (instance : Instance) (plan : List ℕ) → IsInstance instance → triple_from (code_of (cost instance plan)) ≡ cost instance plan
cost-back instance plan valid = triple_from-code_of (cost instance plan)
    (small_tag (levels_of instance) (cost instance plan) (levels-few instance).1 (cost-tag instance plan valid))

pub cost-own : (instance : Instance) (plan : List ℕ) → IsInstance instance → IsTagOf instance (triple_from (code_of (cost instance plan)))
cost-own instance plan valid = subst (λ t. IsTagOf instance t) (sym (cost-back instance plan valid)) (cost-tag instance plan valid)

module _ (instance : Instance) (valid : IsInstance instance) (literals : List Literal) (prefix : IsPrefix instance literals) (full : length (work_order instance) ≤ length literals) where
  pub full-has : (path : ℕ) → path < length instance.paths → (a : Literal) × Contains literals a × (a.path ≡ path)
  full-has path small = along-has instance (work_order instance) literals path prefix full ((order-is instance).whole path small)

  names-all : NamesAll instance literals
  names-all path small =
      let r = full-has path small in
      any-member (λ (b : Literal). eqb b.path path) literals r.0 r.1 (eq-eqb r.0.path path r.2)

  chosen-by : (p : List ℕ) (path : ℕ) → Extends p literals → (a : Literal) → Contains literals a → a.path ≡ path → slice_index p path ≡ a.choice
  chosen-by p path extends a m e = ap (λ n. slice_index p n) (sym e) ∙ All-contains (λ (b : Literal). slice_index p b.path ≡ b.choice) literals a extends m

  pub same-plan : (p q : List ℕ) → IsAssignment instance p → IsAssignment instance q → Extends p literals → Extends q literals → p ≡ q
  same-plan p q pf qf pe qe = same_lists p q (pf.whole ∙ sym qf.whole) (λ k d l.
      let small : k < length instance.paths = omega (arith, pf.whole) in
      let r = full-has k small in
      get_or_default p k d 0 l ∙ (chosen-by p k pe r.0 r.1 r.2 ∙ (sym (chosen-by q k qe r.0 r.1 r.2) ∙ get_or_default q k 0 d (omega (arith, pf.whole, qf.whole)))))

  partial : IsPartial instance literals
  partial = prefix-is_partial instance literals prefix

  module _ (plan : List ℕ) (assignment : IsAssignment instance plan) (extends : Extends plan literals) where
    -- the plan breaks an imperative record
    pub unmet-dead : (tag : ℕ) → IsTagOf instance (triple_from tag) → (IsFeasible instance plan → ⊥) → Dead instance (triple_from tag) literals
    unmet-dead tag own unmet = implied-dead instance (triple_from tag) literals valid own partial names-all (λ other feasible has below.
        unmet (subst (λ p. IsFeasible instance p) (same-plan other plan feasible.assignment assignment has extends) feasible))

    implied-from : (tag : ℕ) → tag ≤ code_of (cost instance plan) → Implied instance (triple_from tag) literals
    implied-from tag low = λ other feasible has below.
        let same = same-plan other plan feasible.assignment assignment has extends in
        not-below (cost instance plan) (triple_from tag)
        (subst (λ t. IsAtMost (triple_from tag) t) (cost-back instance plan valid) (codes-at_most tag (code_of (cost instance plan)) low))
        (subst (λ p. IsBelow (cost instance p) (triple_from tag)) same below)

    pub cost-implied : Implied instance (triple_from (code_of (cost instance plan))) literals
    cost-implied = implied-from (code_of (cost instance plan)) (omega arith)

    pub dead-at-cost : Dead instance (triple_from (code_of (cost instance plan))) literals
    dead-at-cost = implied-dead instance (triple_from (code_of (cost instance plan))) literals valid (cost-own instance plan valid) partial names-all cost-implied

    pub cost-low : (tag : ℕ) → IsTagOf instance (triple_from tag) → (Dead instance (triple_from tag) literals → ⊥) → code_of (cost instance plan) ≤ tag
    cost-low tag own alive = ⊎_elim
        (λ l. omega arith)
        (λ g. absurd (alive (implied-dead instance (triple_from tag) literals valid own partial names-all (implied-from tag g))))
        (cases_lt (code_of (cost instance plan)) tag)
