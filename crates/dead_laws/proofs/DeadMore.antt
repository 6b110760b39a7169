-- What is dead stays dead with more literals.
use Rattle.std.proofs.Common.{◌≡◌, ◌⊎◌, ℕ, ◌<◌, Bool, true, false, not, List, length, refl, sym, ap, subst, inl, inr, Contains, IsTrue}
use Rattle.std.specs.List.{list_any, range_with_len}
use Rattle.std.proofs.lemmas.Bool.{both_ways, false_from_ne_true}
use Rattle.std.proofs.lemmas.List.Elements.{All-contains}
use Rattle.fapp_model.specs.declared.instance.Instance.{Instance}
use Rattle.fapp_model.specs.declared.literal.Literal.{Literal}
use Rattle.fapp_model.specs.declared.triple.Triple.{Triple}
use Rattle.fapp_model.specs.Assignments.{count_at}
use Rattle.fapp_model.specs.search.Clashes.{clashes, clashes_with}
use Rattle.fapp_model.specs.search.Dead.{Dead, DeadBy, IsLeastAdded, Remains, least, clash, outside_literal, no_choice_left, over_limit}
use Rattle.fapp_model.specs.Instances.{IsInstance}
use Rattle.fapp_model.specs.search.Pairs.{Pair, IsPairAtMost, limit_of}
use Rattle.fapp_model.specs.search.Partials.{literal, names, IsLiteral, IsPartial}
use Rattle.fapp_model.specs.Tags.{has_limit, mode_level}
use Rattle.fapp_model.specs.search.Weights.{added_pair, bad_before, bad_further, pair_with}
use Rattle.fapp_model.specs.search.Partials.{HasAll}
use Rattle.fapp_model.proofs.Anys.{any-member, none-member, passing}
use Rattle.dead_laws.proofs.DeadImplied.{small-paths}
use Rattle.dead_laws.proofs.DeadLower.{IsPairAtMost-trans}
use Rattle.dead_laws.proofs.DeadTests.{arcs-of, clash-dead, dead-judged, excluded-dead, has_clash, is_stuck, least-pairs, least_pairs, stuck-dead}
use Rattle.dead_laws.proofs.MoreLiterals.{added-grows, names-more, pair-grows}
use Rattle.dead_laws.proofs.PairSums.{parts-at_most}
use Rattle.dead_laws.proofs.Picks.{names-at}

pub clashes_with-more : (instance : Instance) (level : ℕ) (literals more : List Literal) → HasAll more literals → (a : Literal) → clashes_with instance level literals a ≡ true → clashes_with instance level more a ≡ true
clashes_with-more instance level literals more has a h =
    let found = passing (clashes instance level a) literals h in
    any-member (clashes instance level a) more found.item (All-contains (Contains more) literals found.item has found.member) found.passes

pub free-fewer : (instance : Instance) (level : ℕ) (literals more : List Literal) → HasAll more literals → (a : Literal) → clashes_with instance level more a ≡ false → clashes_with instance level literals a ≡ false
free-fewer instance level literals more has a h = false_from_ne_true (clashes_with instance level literals a) (λ e. both_ways (clashes_with instance level more a) h (clashes_with-more instance level literals more has a e))

-- what some outside test judges dead
abbrev IsJudged : (Literal → Bool) → Instance → Triple → List Literal → Type 0
IsJudged excluded instance t literals = DeadBy (λ a. IsTrue (excluded a)) instance t literals

module _ (instance : Instance) (t : Triple) (excluded : Literal → Bool) (literals more : List Literal) (partial : IsPartial instance literals) (longer : IsPartial instance more) (has : HasAll more literals) where
  module _ (calm : has_clash instance (mode_level t) more ≡ false) (kept : list_any excluded more ≡ false) where
    member-remains : (a : Literal) → Contains more a → Remains (λ a. IsTrue (excluded a)) instance (mode_level t) literals a
    member-remains a c = record {
      kept = both_ways (excluded a) (none-member excluded more kept a c);
      free = free-fewer instance (mode_level t) literals more has a (none-member (λ a. clashes_with instance (mode_level t) more a) more calm a c);
    }

    -- either some further path has no choice left, or each has one, and then the pairs add up to no less
    over-more : IsTrue (has_limit t) → (fewest : ℕ → Pair) →
        ((path : ℕ) → path < length instance.paths → names literals path ≡ false → IsLeastAdded (λ a. IsTrue (excluded a)) instance (mode_level t) literals path (fewest path)) →
        IsPairAtMost (limit_of t) (pair_with instance (mode_level t) literals fewest) →
        (b : Bool) → list_any (is_stuck instance (mode_level t) excluded more) (range_with_len 0 (length instance.paths)) ≡ b → IsJudged excluded instance t more
    over-more some fewest each most true stuck = stuck-dead excluded instance t more stuck
    over-more some fewest each most false loose =
        over_limit some (least_pairs instance (mode_level t) excluded more) least-further
        (IsPairAtMost-trans (limit_of t) (pair_with instance (mode_level t) literals fewest) (pair_with instance (mode_level t) more (least_pairs instance (mode_level t) excluded more)) most
        (pair-grows instance (mode_level t) literals more partial.distinct longer.distinct has (small-paths instance more longer) fewest (least_pairs instance (mode_level t) excluded more)
        (λ a c free. let at_home = All-contains (IsLiteral instance) more a longer.in_range c in
        (each a.path at_home.path free).least a.choice at_home.choice (member-remains a c))
        (λ path small free. at-path path small free (least-further path small free))))
      where
        least-further : (path : ℕ) → path < length instance.paths → names more path ≡ false → IsLeastAdded (λ a. IsTrue (excluded a)) instance (mode_level t) more path (least_pairs instance (mode_level t) excluded more path)
        least-further = least-pairs instance t excluded more longer calm kept loose

        at-path : (path : ℕ) → path < length instance.paths → names more path ≡ false → IsLeastAdded (λ a. IsTrue (excluded a)) instance (mode_level t) more path (least_pairs instance (mode_level t) excluded more path) → IsPairAtMost (fewest path) (least_pairs instance (mode_level t) excluded more path)
        at-path path small free found =
            let a = literal path found.index in
            let here = (each path small (names-more literals more has path free)).least found.index found.in_range (record {
              kept = found.remains.kept;
              free = free-fewer instance (mode_level t) literals more has a found.remains.free;
            }) in
            subst (IsPairAtMost (fewest path)) found.reached
            (IsPairAtMost-trans (fewest path) (added_pair instance (mode_level t) literals a) (added_pair instance (mode_level t) more a) here
            (parts-at_most _ _ _ _ (added-grows instance (bad_before (mode_level t)) literals more partial.distinct longer.distinct has a) (added-grows instance (bad_further (mode_level t)) literals more partial.distinct longer.distinct has a)))

    -- a path whose choices are gone keeps none, so none of them is taken
    gone-choices : (path : ℕ) → path < length instance.paths →
        ((index : ℕ) → index < count_at instance path → IsTrue (excluded (literal path index)) ⊎ IsTrue (clashes_with instance (mode_level t) literals (literal path index))) →
        (b : Bool) → names more path ≡ b → IsJudged excluded instance t more
    gone-choices path small each false e = no_choice_left path small e (λ index below.
        elim (each index below) [
          | inl out ↦ inl out
          | inr bad ↦ inr (clashes_with-more instance (mode_level t) literals more has (literal path index) bad)
        ])
    gone-choices path small each true e =
        let found = names-at more path e in
        let at_home = All-contains (IsLiteral instance) more found.0 longer.in_range found.1 in
        let same : literal path found.0.choice ≡ found.0 = ap (λ p. literal p found.0.choice) (sym found.2) in
        let r = member-remains found.0 found.1 in
        elim (each found.0.choice (subst (λ p. found.0.choice < count_at instance p) found.2 at_home.choice)) [
          | inl out ↦ absurd (r.kept (subst (λ a. IsTrue (excluded a)) same out))
          | inr bad ↦ absurd (both_ways (clashes_with instance (mode_level t) literals found.0) r.free (subst (λ a. clashes_with instance (mode_level t) literals a ≡ true) same bad))
        ]

    calm-more : IsJudged excluded instance t literals → IsJudged excluded instance t more
    calm-more (least e) = least e
    calm-more (clash a b first second bad) = clash a b (All-contains (Contains more) literals a has first) (All-contains (Contains more) literals b has second) bad
    calm-more (outside_literal a member out) = outside_literal a (All-contains (Contains more) literals a has member) out
    calm-more (no_choice_left path small free each) = gone-choices path small each (names more path) refl
    calm-more (over_limit some fewest each most) = over-more some fewest each most (list_any (is_stuck instance (mode_level t) excluded more) (range_with_len 0 (length instance.paths))) refl

  by_kept : has_clash instance (mode_level t) more ≡ false → (b : Bool) → list_any excluded more ≡ b → IsJudged excluded instance t literals → IsJudged excluded instance t more
  by_kept calm true e dead = excluded-dead excluded instance t more e
  by_kept calm false e dead = calm-more calm e dead

  by_calm : (b : Bool) → has_clash instance (mode_level t) more ≡ b → IsJudged excluded instance t literals → IsJudged excluded instance t more
  by_calm true e dead = clash-dead (λ a. IsTrue (excluded a)) instance t more e
  by_calm false e dead = by_kept e (list_any excluded more) refl dead

  pub judged-more : IsJudged excluded instance t literals → IsJudged excluded instance t more
  judged-more dead = by_calm (has_clash instance (mode_level t) more) refl dead

pub dead-more : (instance : Instance) (t : Triple) (literals more : List Literal) → IsInstance instance → IsPartial instance literals → IsPartial instance more → HasAll more literals → Dead instance t literals → Dead instance t more
dead-more instance t literals more valid partial longer has dead =
    let arcs = arcs-of instance (mode_level t) valid in
    (dead-judged instance t more arcs.0 longer arcs.1).1
    (judged-more instance t (λ a. not (arcs.0 a)) literals more partial longer has ((dead-judged instance t literals arcs.0 partial arcs.1).0 dead))
