-- What is dead is implied.
use Rattle.std.proofs.Common.{◌≡◌, ◌⊎◌, ℕ, ◌<◌, Bool, false, ◌&&◌, List, length, refl, subst, inl, inr, arith, All, Contains, IsTrue, ltb, eqb, slice_index}
use Rattle.std.proofs.lemmas.Bool.{and_parts, and_from, both_ways, ltb-true, lt-ltb, eqb-true, eq-eqb}
use Rattle.std.proofs.lemmas.List.Elements.{All-contains, All-cons, All-head}
use Rattle.fapp_model.specs.declared.instance.Instance.{Instance}
use Rattle.fapp_model.specs.declared.literal.Literal.{Literal}
use Rattle.fapp_model.specs.declared.triple.Triple.{Triple}
use Rattle.fapp_model.specs.search.Arcs.{IsSupported, OutsideArc}
use Rattle.fapp_model.specs.Assignments.{count_at}
use Rattle.fapp_model.specs.search.Clashes.{clashes, clashes_with}
use Rattle.fapp_model.specs.Costs.{cost, violations}
use Rattle.fapp_model.specs.search.Dead.{Dead, DeadBy, IsLeastAdded, least, clash, outside_literal, no_choice_left, over_limit}
use Rattle.fapp_model.specs.search.Implied.{Implied}
use Rattle.fapp_model.specs.Instances.{IsInstance}
use Rattle.fapp_model.specs.Least.{IsFeasible}
use Rattle.fapp_model.specs.Levels.{levels_of}
use Rattle.fapp_model.specs.search.Modes.{IsWithin, pair_below}
use Rattle.fapp_model.specs.search.Pairs.{Pair, IsPairAtMost, limit_of}
use Rattle.fapp_model.specs.search.Partials.{literal, names, Extends, IsLiteral, IsPartial}
use Rattle.fapp_model.specs.Tags.{IsTagOf, has_limit, mode_level, top_tag}
use Rattle.fapp_model.specs.Triples.{IsBelow}
use Rattle.fapp_model.specs.search.Weights.{added_pair, pair_with}
use Rattle.fapp_model.specs.search.Implied.{RulesOut}
use Rattle.dead_laws.proofs.CostLaws.{cost-within}
use Rattle.dead_laws.proofs.DeadLower.{IsPairAtMost-trans, nothing_below}
use Rattle.dead_laws.proofs.MoreLiterals.{pair-grows}
use Rattle.dead_laws.proofs.ImpliedLemmas.{none-at-top}
use Rattle.dead_laws.proofs.PairSums.{not_both}
use Rattle.dead_laws.proofs.PlanLiterals.{IsChosen, plan_literals, plan-apart, plan-distinct, plan-free, plan-has, plan-member, plan-names, plan-pair, plan-small}
use Rattle.dead_laws.proofs.RecordEnds.{shares-range}
use Rattle.fapp_model.proofs.TagParts.{tag_from_plain}

pub small-paths : (instance : Instance) (literals : List Literal) → IsPartial instance literals → All (λ (a : Literal). a.path < length instance.paths) literals
small-paths instance literals partial = λ k d l. (partial.in_range k d l).path

module _ (outside : Literal → Type 0) (instance : Instance) (t : Triple) (literals : List Literal) (valid : IsInstance instance) (partial : IsPartial instance literals) (out : RulesOut instance t literals outside)
    (plan : List ℕ) (feasible : IsFeasible instance plan) (extends : Extends plan literals) (below : IsBelow (cost instance plan) t) (within : IsWithin instance t plan) where
  chosen-inside : (a : Literal) → IsLiteral instance a → IsChosen plan a → outside a → ⊥
  chosen-inside a at_home own gone = out a at_home gone plan feasible (All-cons (IsChosen plan) a literals own extends) below

  chosen-in-range : (path : ℕ) → path < length instance.paths → IsLiteral instance (literal path (slice_index plan path))
  chosen-in-range path small = record { path = small; choice = feasible.assignment.in_range path small }

  member-chosen : (a : Literal) → Contains literals a → IsChosen plan a
  member-chosen a c = All-contains (IsChosen plan) literals a extends c

  over : IsTrue (has_limit t) → (fewest : ℕ → Pair) →
      ((path : ℕ) → path < length instance.paths → names literals path ≡ false → IsLeastAdded outside instance (mode_level t) literals path (fewest path)) →
      IsPairAtMost (limit_of t) (pair_with instance (mode_level t) literals fewest) → ⊥
  over some fewest each most =
      let n = length instance.paths in
      let grown = pair-grows instance (mode_level t) literals (plan_literals n plan) partial.distinct (plan-distinct n plan) (plan-has n plan literals (small-paths instance literals partial) extends) (plan-small n plan) fewest fewest
      (λ a c free. one a (plan-member n plan a c) free)
      (λ path small free. absurd (both_ways (names (plan_literals n plan) path) free (plan-names n plan path small))) in
      not_both (pair_below instance plan (mode_level t)) (limit_of t) (within.limited some)
      (subst (IsPairAtMost (limit_of t)) (plan-pair instance plan (mode_level t) valid fewest)
      (IsPairAtMost-trans (limit_of t) (pair_with instance (mode_level t) literals fewest) (pair_with instance (mode_level t) (plan_literals n plan) fewest) most grown))
    where
      one : (a : Literal) → (a.path < length instance.paths) × IsChosen plan a → names literals a.path ≡ false → IsPairAtMost (fewest a.path) (added_pair instance (mode_level t) literals a)
      one a (small, own) free =
          let choice_small = subst (λ c. c < count_at instance a.path) own (feasible.assignment.in_range a.path small) in
          (each a.path small free).least a.choice choice_small (record {
            kept = chosen-inside a (record { path = small; choice = choice_small }) own;
            free = plan-free instance plan (mode_level t) feasible.met within.clear literals a extends own;
          })

  refutes : DeadBy outside instance t literals → ⊥
  refutes (least e) = nothing_below (cost instance plan) (subst (IsBelow (cost instance plan)) e below)
  refutes (clash a b first second bad) = both_ways (clashes instance (mode_level t) a b) (plan-apart instance plan (mode_level t) feasible.met within.clear a b (member-chosen a first) (member-chosen b second)) bad
  refutes (outside_literal a member gone) = chosen-inside a (All-contains (IsLiteral instance) literals a partial.in_range member) (member-chosen a member) gone
  refutes (no_choice_left path small free each) =
      elim (each (slice_index plan path) (feasible.assignment.in_range path small)) [
        | inl gone ↦ chosen-inside (literal path (slice_index plan path)) (chosen-in-range path small) refl gone
        | inr bad ↦ both_ways (clashes_with instance (mode_level t) literals (literal path (slice_index plan path))) (plan-free instance plan (mode_level t) feasible.met within.clear literals (literal path (slice_index plan path)) extends refl) bad
      ]
  refutes (over_limit some fewest each most) = over some fewest each most

-- What is judged dead is implied, where each choice that stands outside is ruled out.
pub dead_by-implied : (outside : Literal → Type 0) (instance : Instance) (t : Triple) (literals : List Literal) → IsInstance instance → IsTagOf instance t → IsPartial instance literals → RulesOut instance t literals outside → DeadBy outside instance t literals → Implied instance t literals
dead_by-implied outside instance t literals valid tag partial out dead = λ plan feasible extends below.
    refutes outside instance t literals valid partial out plan feasible extends below (cost-within instance t plan valid tag below) dead

-- the choices of a plan, as a family
abbrev pub plan_family : Instance → List ℕ → Literal → Bool
plan_family instance plan a = ltb a.path (length instance.paths) && eqb (slice_index plan a.path) a.choice

plan-supported : (instance : Instance) (plan : List ℕ) (level : ℕ) → IsInstance instance → IsFeasible instance plan → violations instance plan level ≡ 0 → IsSupported instance level (plan_family instance plan)
plan-supported instance plan level valid feasible clear = record {
  in_range = λ a h. let parts = family-parts a h in
      record { path = parts.0; choice = subst (λ c. c < count_at instance a.path) parts.1 (feasible.assignment.in_range a.path parts.0) };
  supported = λ a path member shares.
      let ends = shares-range instance valid a.path path shares in
      record {
        index = slice_index plan path;
        member = and_from _ _ (lt-ltb path (length instance.paths) ends.1) (eq-eqb (slice_index plan path) (slice_index plan path) refl);
        apart = plan-apart instance plan level feasible.met clear a (literal path (slice_index plan path)) (family-parts a member).1 refl;
      };
}
  where
    family-parts : (a : Literal) → IsTrue (plan_family instance plan a) → (a.path < length instance.paths) × IsChosen plan a
    family-parts a h =
        let parts = and_parts (ltb a.path (length instance.paths)) (eqb (slice_index plan a.path) a.choice) h in
        (ltb-true _ _ parts.0, eqb-true _ _ parts.1)

-- A choice outside the arcs is ruled out.
pub arcs-rule-out : (instance : Instance) (t : Triple) (literals : List Literal) → IsInstance instance → IsTagOf instance t → RulesOut instance t literals (OutsideArc instance (mode_level t))
arcs-rule-out instance t literals valid tag a at_home gone = λ plan feasible extends below.
    let within = cost-within instance t plan valid tag below in
    let own = All-head (IsChosen plan) a literals extends in
    gone (plan_family instance plan, plan-supported instance plan (mode_level t) valid feasible within.clear, and_from _ _ (lt-ltb a.path (length instance.paths) at_home.path) (eq-eqb (slice_index plan a.path) a.choice own))

pub dead-implied : (instance : Instance) (t : Triple) (literals : List Literal) → IsInstance instance → IsTagOf instance t → IsPartial instance literals → Dead instance t literals → Implied instance t literals
dead-implied instance t literals valid tag partial dead = dead_by-implied (OutsideArc instance (mode_level t)) instance t literals valid tag partial (arcs-rule-out instance t literals valid tag) dead

top-tag : (instance : Instance) → IsTagOf instance (top_tag instance)
top-tag instance = tag_from_plain (levels_of instance) (top_tag instance) refl refl (omega arith)

pub none-feasible : (instance : Instance) (plan : List ℕ) (literals : List Literal) → IsInstance instance → IsPartial instance literals → Dead instance (top_tag instance) literals → IsFeasible instance plan → Extends plan literals → ⊥
none-feasible instance plan literals valid partial dead = none-at-top instance plan literals (dead-implied instance (top_tag instance) literals valid (top-tag instance) partial dead)

-- by the arcs and a test of more choices
pub dead-by-arcs-and-test : (excluded : Literal → Bool) (instance : Instance) (t : Triple) (literals : List Literal) → IsInstance instance → IsTagOf instance t → IsPartial instance literals → RulesOut instance t literals (λ a. IsTrue (excluded a)) → DeadBy (λ a. OutsideArc instance (mode_level t) a ⊎ IsTrue (excluded a)) instance t literals → Implied instance t literals
dead-by-arcs-and-test excluded instance t literals valid tag partial out dead =
    dead_by-implied (λ a. OutsideArc instance (mode_level t) a ⊎ IsTrue (excluded a)) instance t literals valid tag partial either dead
  where
    either : RulesOut instance t literals (λ a. OutsideArc instance (mode_level t) a ⊎ IsTrue (excluded a))
    either a at_home (inl gone) = arcs-rule-out instance t literals valid tag a at_home gone
    either a at_home (inr passed) = out a at_home passed
