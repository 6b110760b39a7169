-- For a literal of each path, what is implied is dead.
use Rattle.std.proofs.Common.{◌≡◌, ℕ, zero, suc, ◌<◌, Bool, true, false, ◌&&◌, not, cond, List, [], ◌∷◌, length, get_or, refl, sym, ap, ◌∙◌, subst, inl, inr, arith, Contains, IsTrue, eqb, map, slice_index}
use Rattle.std.specs.List.{range_with_len}
use Rattle.std.proofs.lemmas.Bool.{and_from, and_cases, both_ways, cond-true, cond-false, false_from_ne_true, not_from_false, or_parts, eqb-true, eq-eqb}
use Rattle.std.proofs.lemmas.List.Elements.{All-contains, Contains-get_or}
use Rattle.std.proofs.lemmas.List.FromFn.{length-map-range_with_len, get_or-map-range_with_len}
use Rattle.std.proofs.lemmas.List.Sums.{list_all-from_AllPass}
use Rattle.fapp_model.specs.declared.instance.Instance.{Instance}
use Rattle.fapp_model.specs.declared.literal.Literal.{Literal}
use Rattle.fapp_model.specs.declared.record.Record.{Record}
use Rattle.fapp_model.specs.declared.triple.Triple.{Triple}
use Rattle.fapp_model.specs.search.Arcs.{OutsideArc}
use Rattle.fapp_model.specs.Assignments.{IsAssignment, breaks, chosen, count_at, meets, violates}
use Rattle.fapp_model.specs.search.Clashes.{blocks, is_hard_bad, joins}
use Rattle.fapp_model.specs.Costs.{violations}
use Rattle.fapp_model.specs.search.Dead.{Dead, least, over_limit}
use Rattle.fapp_model.specs.search.Implied.{Implied}
use Rattle.fapp_model.specs.Instances.{IsInstance, IsRecord}
use Rattle.fapp_model.specs.Least.{IsFeasible}
use Rattle.fapp_model.specs.Levels.{levels_of}
use Rattle.fapp_model.specs.search.Modes.{pair_below}
use Rattle.fapp_model.specs.search.Pairs.{Pair, IsPairAtMost, IsPairBelow, limit_of}
use Rattle.fapp_model.specs.search.Partials.{choice_of, literal, names, Extends, IsLiteral, IsPartial}
use Rattle.fapp_model.specs.Records.{first_path, second_path}
use Rattle.fapp_model.specs.Tags.{IsTagOf, has_limit, least_tag, mode_level}
use Rattle.fapp_model.specs.Triples.{IsBelow}
use Rattle.fapp_model.specs.search.Weights.{pair_with}
use Rattle.dead_laws.specs.DeadLaws.{NamesAll}
use Rattle.fapp_model.specs.search.Partials.{HasAll}
use Rattle.fapp_model.proofs.Anys.{none-member}
use Rattle.dead_laws.proofs.CostLaws.{within-cost}
use Rattle.dead_laws.proofs.DeadImplied.{small-paths}
use Rattle.dead_laws.proofs.DeadLower.{IsPairAtMost-trans, least_or_above}
use Rattle.dead_laws.proofs.DeadTests.{calm-at, clash-dead, has_clash}
use Rattle.dead_laws.proofs.MoreLiterals.{pair-grows}
use Rattle.dead_laws.proofs.PairSums.{below_or_at_most}
use Rattle.dead_laws.proofs.Picks.{AreDistinct, distinct-tail, names-at}
use Rattle.dead_laws.proofs.PlanLiterals.{IsChosen, chosen-is, plan_literals, plan-distinct, plan-member, plan-names, plan-pair}
use Rattle.fapp_model.proofs.Sums.{count_by-none}
use Rattle.fapp_model.proofs.TagParts.{shape_of}

-- the index that a list chooses for a path
abbrev pub index_in : List Literal → ℕ → ℕ
index_in [] path = 0
index_in (a ∷ literals) path = cond (eqb a.path path) a.choice (index_in literals path)

index_in-at : (literals : List Literal) (a : Literal) (k : ℕ) → AreDistinct literals → k < length literals → get_or literals k a ≡ a → index_in literals a.path ≡ a.choice
index_in-at [] a k distinct h e = absurd (omega arith)
index_in-at (b ∷ literals) a zero distinct h e =
    cond-true (eqb b.path a.path) b.choice (index_in literals a.path) (eq-eqb b.path a.path (ap (λ (x : Literal). x.path) e)) ∙ ap (λ (x : Literal). x.choice) e
index_in-at (b ∷ literals) a (suc k) distinct h e =
    cond-false (eqb b.path a.path) b.choice (index_in literals a.path) (false_from_ne_true (eqb b.path a.path) (λ same. distinct 0 (suc k) a (omega arith) h (eqb-true b.path a.path same ∙ sym (ap (λ (x : Literal). x.path) e))))
    ∙ index_in-at literals a k (distinct-tail b literals distinct) (omega arith) e

-- the plan of a list that names each path
abbrev pub plan_of : Instance → List Literal → List ℕ
plan_of instance literals = map (index_in literals) (range_with_len 0 (length instance.paths))

same-literal : (a b : Literal) → a.path ≡ b.path → a.choice ≡ b.choice → a ≡ b
same-literal a b p c = ap (λ x. literal x a.choice) p ∙ ap (literal b.path) c

module _ (instance : Instance) (literals : List Literal) (partial : IsPartial instance literals) where
  plan-index : (path : ℕ) → path < length instance.paths → slice_index (plan_of instance literals) path ≡ index_in literals path
  plan-index path h = get_or-map-range_with_len (index_in literals) 0 (length instance.paths) path path 0 h (omega arith)

  plan-extends : Extends (plan_of instance literals) literals
  plan-extends = λ k d l.
      let a = get_or literals k d in
      let member = Contains-get_or literals k d l in
      plan-index a.path (partial.in_range k d l).path ∙ index_in-at literals a member.0 partial.distinct member.1 member.2

  module _ (full : NamesAll instance literals) where
    plan-assignment : IsAssignment instance (plan_of instance literals)
    plan-assignment = record {
      whole = length-map-range_with_len (index_in literals) 0 (length instance.paths);
      in_range = λ path small.
          let found = names-at literals path (full path small) in
          let at_home = All-contains (IsLiteral instance) literals found.0 partial.in_range found.1 in
          let own = All-contains (IsChosen (plan_of instance literals)) literals found.0 plan-extends found.1 in
          subst (λ p. slice_index (plan_of instance literals) p < count_at instance p) found.2 (subst (λ c. c < count_at instance found.0.path) (sym own) at_home.choice);
    }

    plan-within : HasAll literals (plan_literals (length instance.paths) (plan_of instance literals))
    plan-within = λ k d l.
        let a = get_or (plan_literals (length instance.paths) (plan_of instance literals)) k d in
        let member = plan-member (length instance.paths) (plan_of instance literals) a (Contains-get_or (plan_literals (length instance.paths) (plan_of instance literals)) k d l) in
        let found = names-at literals a.path (full a.path member.0) in
        let own = All-contains (IsChosen (plan_of instance literals)) literals found.0 plan-extends found.1 in
        subst (Contains literals) (same-literal found.0 a found.2 (sym own ∙ (ap (slice_index (plan_of instance literals)) found.2 ∙ member.1))) found.1

    module _ (valid : IsInstance instance) (level : ℕ) (calm : has_clash instance level literals ≡ false) where
      calm-record : (r : Record) → Contains instance.records r → is_hard_bad level r (chosen instance (plan_of instance literals) (first_path r)) (chosen instance (plan_of instance literals) (second_path r)) ≡ false
      calm-record r c =
          let ends = All-contains (IsRecord (levels_of instance) (length instance.paths)) instance.records r valid.records c in
          let a = names-at literals (first_path r) (full (first_path r) ends.first) in
          let b = names-at literals (second_path r) (full (second_path r) ends.second) in
          let own = All-contains (IsChosen (plan_of instance literals)) literals a.0 plan-extends a.1 in
          let also = All-contains (IsChosen (plan_of instance literals)) literals b.0 plan-extends b.1 in
          let apart = or_parts (blocks instance level a.0 b.0) (blocks instance level b.0 a.0) (calm-at instance level literals calm a.0 b.0 a.1 b.1) in
          let this = none-member (λ r. joins a.0.path b.0.path r && is_hard_bad level r (choice_of instance a.0) (choice_of instance b.0)) instance.records apart.0 r c in
          let joined = and_from (eqb (first_path r) a.0.path) (eqb (second_path r) b.0.path) (eq-eqb (first_path r) a.0.path (sym a.2)) (eq-eqb (second_path r) b.0.path (sym b.2)) in
          sym (ap (λ x. is_hard_bad level r x (choice_of instance b.0)) (chosen-is instance (plan_of instance literals) a.0 (first_path r) own (sym a.2))
          ∙ ap (λ y. is_hard_bad level r (chosen instance (plan_of instance literals) (first_path r)) y) (chosen-is instance (plan_of instance literals) b.0 (second_path r) also (sym b.2)))
          ∙ right_false (joins a.0.path b.0.path r) (is_hard_bad level r (choice_of instance a.0) (choice_of instance b.0)) joined this
        where
          right_false : (x y : Bool) → x ≡ true → (x && y) ≡ false → y ≡ false
          right_false x y e h = elim (and_cases x y h) [ inl fails ↦ absurd (both_ways x fails e) | inr holds ↦ holds ]

      plan-meets : IsTrue (meets instance (plan_of instance literals))
      plan-meets = list_all-from_AllPass (λ r. not (breaks instance (plan_of instance literals) r)) instance.records
          (λ k d l. not_from_false (breaks instance (plan_of instance literals) (get_or instance.records k d))
          (or_parts (breaks instance (plan_of instance literals) (get_or instance.records k d)) (violates instance (plan_of instance literals) level (get_or instance.records k d))
          (calm-record (get_or instance.records k d) (Contains-get_or instance.records k d l))).0)

      plan-clear : violations instance (plan_of instance literals) level ≡ 0
      plan-clear = count_by-none (violates instance (plan_of instance literals) level) instance.records
          (λ k d l. (or_parts (breaks instance (plan_of instance literals) (get_or instance.records k d)) (violates instance (plan_of instance literals) level (get_or instance.records k d))
          (calm-record (get_or instance.records k d) (Contains-get_or instance.records k d l))).1)

      plan-feasible : IsFeasible instance (plan_of instance literals)
      plan-feasible = record { assignment = plan-assignment; met = plan-meets }

nothing_more : Pair
nothing_more = record { v = 0; s = 0 }

module _ (instance : Instance) (t : Triple) (literals : List Literal) (valid : IsInstance instance) (tag : IsTagOf instance t) (partial : IsPartial instance literals) (full : NamesAll instance literals) (implied : Implied instance t literals) where
  not-within : has_clash instance (mode_level t) literals ≡ false → IsBelow least_tag t → (IsTrue (has_limit t) → IsPairBelow (pair_below instance (plan_of instance literals) (mode_level t)) (limit_of t)) → ⊥
  not-within calm above pair =
      implied (plan_of instance literals) (plan-feasible instance literals partial full valid (mode_level t) calm) (plan-extends instance literals partial)
      (within-cost instance t (plan_of instance literals) tag above (record { clear = plan-clear instance literals partial full valid (mode_level t) calm; limited = pair }))

  over : IsTrue (has_limit t) → IsPairAtMost (limit_of t) (pair_below instance (plan_of instance literals) (mode_level t)) → Dead instance t literals
  over some most =
      let n = length instance.paths in
      let plan = plan_of instance literals in
      let grown = pair-grows instance (mode_level t) (plan_literals n plan) literals (plan-distinct n plan) partial.distinct (plan-within instance literals partial full) (small-paths instance literals partial) (λ path. nothing_more) (λ path. nothing_more)
      (λ a c free. absurd (both_ways (names (plan_literals n plan) a.path) free (plan-names n plan a.path (All-contains (IsLiteral instance) literals a partial.in_range c).path)))
      (λ path small free. absurd (both_ways (names literals path) free (full path small))) in
      over_limit some (λ path. nothing_more) (λ path small free. absurd (both_ways (names literals path) free (full path small)))
      (IsPairAtMost-trans (limit_of t) (pair_with instance (mode_level t) (plan_literals n plan) (λ path. nothing_more)) (pair_with instance (mode_level t) literals (λ path. nothing_more))
      (subst (IsPairAtMost (limit_of t)) (sym (plan-pair instance plan (mode_level t) valid (λ path. nothing_more))) most) grown)

  by_limit : has_clash instance (mode_level t) literals ≡ false → IsBelow least_tag t → (b : Bool) → has_limit t ≡ b → Dead instance t literals
  by_limit calm above false e = absurd (not-within calm above (λ some. absurd (both_ways (has_limit t) e some)))
  by_limit calm above true e =
      elim (below_or_at_most (pair_below instance (plan_of instance literals) (mode_level t)) (limit_of t)) [
        | inl less ↦ absurd (not-within calm above (λ some. less))
        | inr most ↦ over e most
      ]

  by_clash : (b : Bool) → has_clash instance (mode_level t) literals ≡ b → Dead instance t literals
  by_clash true e = clash-dead (OutsideArc instance (mode_level t)) instance t literals e
  by_clash false e =
      elim (least_or_above (levels_of instance) t (shape_of instance t tag)) [
        | inl same ↦ least same
        | inr above ↦ by_limit e above (has_limit t) refl
      ]

  pub implied-dead : Dead instance t literals
  implied-dead = by_clash (has_clash instance (mode_level t) literals) refl
