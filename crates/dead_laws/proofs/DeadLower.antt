-- Dead partial assignments at lower tags.
use Rattle.std.proofs.Common.{◌≡◌, ◌⊎◌, ℕ, ◌-◌, ◌<◌, ◌≤◌, Bool, true, false, cond, List, length, refl, ap, ◌∙◌, subst, inl, inr, arith, IsTrue}
use Rattle.std.specs.List.{range_with_len}
use Rattle.std.proofs.lemmas.Bool.{cases_lt, ltb-true, lt-ltb, both_ways}
use Rattle.fapp_model.specs.declared.instance.Instance.{Instance}
use Rattle.fapp_model.specs.declared.literal.Literal.{Literal}
use Rattle.fapp_model.specs.declared.triple.Triple.{Triple}
use Rattle.fapp_model.specs.search.Arcs.{OutsideArc}
use Rattle.fapp_model.specs.Assignments.{count_at}
use Rattle.fapp_model.specs.search.Clashes.{clashes_with}
use Rattle.fapp_model.specs.search.Dead.{Dead, IsLeastAdded, least, clash, outside_literal, no_choice_left, over_limit}
use Rattle.fapp_model.specs.Instances.{IsInstance}
use Rattle.fapp_model.specs.Levels.{levels_of}
use Rattle.fapp_model.specs.search.Pairs.{Pair, IsPairAtMost, limit_of}
use Rattle.fapp_model.specs.search.Partials.{literal, names}
use Rattle.fapp_model.specs.Tags.{IsTagOf, least_tag, mode_level}
use Rattle.fapp_model.specs.Triples.{IsBelow}
use Rattle.fapp_model.specs.search.Weights.{added_pair, bad_before, inside, pair_with}
use Rattle.fapp_model.specs.Triples.{IsAtMost}
use Rattle.fapp_model.proofs.Anys.{positive-sum_by}
use Rattle.fapp_model.proofs.Members.{from-range}
use Rattle.dead_laws.proofs.LowerLevels.{InArc_higher, added_clashes, clashes_lower, clashes_with_lower, free_higher, inside_clashes, outside_lower}
use Rattle.fapp_model.proofs.TagParts.{TagShape, limited, plain, mode-limited, mode-plain, shape_of}

-- a triple with no violation is its level alone
level_alone : (t : Triple) → t.v ≡ 0 → t.s ≡ 0 → t.k ≡ 0 → t ≡ least_tag
level_alone t none nothing low =
    ap (λ k. let u : Triple = record { k = k; v = t.v; s = t.s } in u) low ∙ (ap (λ v. let u : Triple = record { k = 0; v = v; s = t.s } in u) none ∙ ap (λ s. let u : Triple = record { k = 0; v = 0; s = s } in u) nothing)

pub least_or_above : (levels : ℕ) (t : Triple) → TagShape levels t → (t ≡ least_tag) ⊎ IsBelow least_tag t
least_or_above levels t (limited some low high v s) = inr (inl low)
least_or_above levels t (plain none nothing high) =
    elim (cases_lt 0 t.k) [ inl low ↦ inr (inl low) | inr zero_level ↦ inl (level_alone t none nothing (omega arith)) ]

pub nothing_below : (t : Triple) → IsBelow t least_tag → ⊥
nothing_below t (inl h) = omega arith
nothing_below t (inr (same, inl h)) = omega arith
nothing_below t (inr (same, inr h)) = omega (arith, h.1)

at_most_least : (u t : Triple) → IsAtMost u t → t ≡ least_tag → u ≡ least_tag
at_most_least u t (inl h) e = absurd (nothing_below u (subst (IsBelow u) e h))
at_most_least u t (inr same) e = same ∙ e

k_at_most : (u t : Triple) → IsAtMost u t → u.k ≤ t.k
k_at_most u t (inl (inl h)) = omega arith
k_at_most u t (inl (inr (same, h))) = omega arith
k_at_most u t (inr same) = omega (arith, ap (λ (w : Triple). w.k) same)

k_below_plain : (u t : Triple) → IsBelow u t → t.v ≡ 0 → t.s ≡ 0 → u.k < t.k
k_below_plain u t (inl h) none nothing = h
k_below_plain u t (inr (same, inl h)) none nothing = absurd (omega arith)
k_below_plain u t (inr (same, inr h)) none nothing = absurd (omega (arith, h.1))

mode-le-k : (levels : ℕ) (u : Triple) → TagShape levels u → mode_level u ≤ u.k
mode-le-k levels u (limited some low high v s) = omega (arith, mode-limited u some)
mode-le-k levels u (plain none nothing high) = omega (arith, mode-plain u none)

-- a lower tag has no higher level
pub mode-le : (levels : ℕ) (u t : Triple) → TagShape levels u → TagShape levels t → IsAtMost u t → mode_level u ≤ mode_level t
mode-le levels u t us (limited some low high v s) h = omega (arith, mode-le-k levels u us, k_at_most u t h, mode-limited t some)
mode-le levels u t us (plain none nothing high) (inl h) = omega (arith, mode-le-k levels u us, k_below_plain u t h none nothing, mode-plain t none)
mode-le levels u t us (plain none nothing high) (inr same) = omega (arith, ap mode_level same)

pub IsPairAtMost-trans : (p q r : Pair) → IsPairAtMost p q → IsPairAtMost q r → IsPairAtMost p r
IsPairAtMost-trans p q r (inl h) (inl g) = inl (omega arith)
IsPairAtMost-trans p q r (inl h) (inr g) = inl (omega (arith, g.0))
IsPairAtMost-trans p q r (inr h) (inl g) = inl (omega (arith, h.0))
IsPairAtMost-trans p q r (inr h) (inr g) = inr (omega (arith, h.0, g.0), omega (arith, h.1, g.1))

limits-at-most : (u t : Triple) → IsAtMost u t → u.k ≡ t.k → IsPairAtMost (limit_of u) (limit_of t)
limits-at-most u t (inl (inl h)) same = absurd (omega arith)
limits-at-most u t (inl (inr (also, inl h))) same = inl h
limits-at-most u t (inl (inr (also, inr h))) same = inr (h.0, omega (arith, h.1))
limits-at-most u t (inr e) same = inr (ap (λ (w : Triple). w.v) e, omega (arith, ap (λ (w : Triple). w.s) e))

v-at-least : (p q : Pair) → IsPairAtMost p q → 0 < p.v → 0 < q.v
v-at-least p q (inl h) some = omega arith
v-at-least p q (inr h) some = omega (arith, h.0)

open_positive : (b : Bool) (n : ℕ) → 0 < cond b 0 n → (b ≡ false) × (0 < n)
open_positive true n h = absurd (omega arith)
open_positive false n h = (refl, h)

module _ (instance : Instance) (t u : Triple) (literals : List Literal) (valid : IsInstance instance) where
  -- a path whose least pair is positive has no choice left further below
  none_left : mode_level u ≤ mode_level t - 1 → (path : ℕ) → (pair : Pair) → 0 < pair.v →
      IsLeastAdded (OutsideArc instance (mode_level t)) instance (mode_level t) literals path pair →
      (index : ℕ) → index < count_at instance path →
      OutsideArc instance (mode_level u) (literal path index) ⊎ IsTrue (clashes_with instance (mode_level u) literals (literal path index))
  none_left lower path pair some chosen index small = by_cases (clashes_with instance (mode_level u) literals (literal path index)) refl
    where
      by_cases : (b : Bool) → clashes_with instance (mode_level u) literals (literal path index) ≡ b → OutsideArc instance (mode_level u) (literal path index) ⊎ IsTrue (clashes_with instance (mode_level u) literals (literal path index))
      by_cases true e = inr e
      by_cases false e = inl (λ within.
          let free = free_higher instance valid (mode_level u) (mode_level t) (omega arith) literals (literal path index) e in
          let kept = InArc_higher instance valid (mode_level u) (mode_level t) (omega arith) (literal path index) within in
          let above = chosen.least index small (record { kept = λ out. out kept; free = free }) in
          let adds = v-at-least pair (added_pair instance (mode_level t) literals (literal path index)) above some in
          both_ways (clashes_with instance (mode_level u) literals (literal path index)) e (added_clashes instance valid (mode_level u) (mode_level t) lower literals (literal path index) adds))

  over_below : mode_level u ≤ mode_level t - 1 → 0 < t.v → (fewest : ℕ → Pair) →
      ((path : ℕ) → path < length instance.paths → names literals path ≡ false →
      IsLeastAdded (OutsideArc instance (mode_level t)) instance (mode_level t) literals path (fewest path)) →
      IsPairAtMost (limit_of t) (pair_with instance (mode_level t) literals fewest) → Dead instance u literals
  over_below lower some fewest each over =
      let positive = v-at-least (limit_of t) (pair_with instance (mode_level t) literals fewest) over some in
      elim (cases_lt 0 (inside instance (bad_before (mode_level t)) literals)) [
        | inl within ↦
            let found = inside_clashes instance valid (mode_level u) (mode_level t) lower literals within in
            clash found.first found.second found.first_in found.second_in found.clash
        | inr none ↦
            let found = positive-sum_by (λ path. cond (names literals path) 0 (fewest path).v) (range_with_len 0 (length instance.paths)) (omega (arith, positive)) in
            let small = from-range (length instance.paths) found.item found.member in
            let free = open_positive (names literals found.item) (fewest found.item).v found.positive in
            no_choice_left found.item small free.0 (none_left lower found.item (fewest found.item) free.1 (each found.item small free.0))
      ]

  same_level : IsTagOf instance u → 0 < t.v → mode_level t ≡ mode_level u → IsAtMost u t → (fewest : ℕ → Pair) →
      ((path : ℕ) → path < length instance.paths → names literals path ≡ false →
      IsLeastAdded (OutsideArc instance (mode_level t)) instance (mode_level t) literals path (fewest path)) →
      IsPairAtMost (limit_of t) (pair_with instance (mode_level t) literals fewest) → (u ≡ least_tag) ⊎ Dead instance u literals
  same_level tag some same h fewest each over = by_shape (shape_of instance u tag)
    where
      by_shape : TagShape (levels_of instance) u → (u ≡ least_tag) ⊎ Dead instance u literals
      by_shape (limited also low high v s) =
          let level : u.k ≡ t.k = omega (arith, mode-limited u also, mode-limited t some) in
          inr (over_limit (lt-ltb 0 u.v also) fewest
          (subst (λ n. (path : ℕ) → path < length instance.paths → names literals path ≡ false → IsLeastAdded (OutsideArc instance n) instance n literals path (fewest path)) same each)
          (IsPairAtMost-trans (limit_of u) (limit_of t) (pair_with instance (mode_level u) literals fewest) (limits-at-most u t h level)
          (subst (λ n. IsPairAtMost (limit_of t) (pair_with instance n literals fewest)) same over)))
      by_shape (plain none nothing high) =
          elim (cases_lt 0 u.k) [
            | inl low ↦ absurd (omega (arith, mode-plain u none, mode-limited t some, k_at_most u t h))
            | inr zero_level ↦ inl (level_alone u none nothing (omega arith))
          ]

  module _ (tag_t : IsTagOf instance t) (tag_u : IsTagOf instance u) (h : IsAtMost u t) where
    lower_le : mode_level u ≤ mode_level t
    lower_le = mode-le (levels_of instance) u t (shape_of instance u tag_u) (shape_of instance t tag_t) h

    pub dead_lower : Dead instance t literals → Dead instance u literals
    dead_lower (least e) = least (at_most_least u t h e)
    dead_lower (clash a b first second bad) = clash a b first second (clashes_lower instance valid (mode_level u) (mode_level t) lower_le a b bad)
    dead_lower (outside_literal a member out) = outside_literal a member (outside_lower instance valid (mode_level u) (mode_level t) lower_le a out)
    dead_lower (no_choice_left path small free each) = no_choice_left path small free (λ index below.
        elim (each index below) [
          | inl out ↦ inl (outside_lower instance valid (mode_level u) (mode_level t) lower_le (literal path index) out)
          | inr bad ↦ inr (clashes_with_lower instance valid (mode_level u) (mode_level t) lower_le literals (literal path index) bad)
        ])
    dead_lower (over_limit some fewest each over) =
        elim (cases_lt (mode_level u) (mode_level t)) [
          | inl lower ↦ over_below (omega arith) (ltb-true 0 t.v some) fewest each over
          | inr high ↦ elim (same_level tag_u (ltb-true 0 t.v some) (omega (arith, lower_le)) h fewest each over) [
            | inl e ↦ least e
            | inr dead ↦ dead
          ]
        ]
