-- Dead, by whether literals are calm and by their sum.
use Rattle.std.proofs.Common.{◌≡◌, ◌⊎◌, ◌↔◌, ℕ, ◌+◌, ◌*◌, ◌<◌, ◌≤◌, Bool, true, false, cond, not, List, length, get_or, refl, sym, ap, ◌∙◌, subst, inl, inr, arith, sum_by, All, Contains, IsTrue}
use Rattle.std.specs.List.{list_any, range_with_len}
use Rattle.std.proofs.lemmas.Bool.{both_ways, cases_Bool, cases_lt, not-true, not_from_false, false_from_ne_true}
use Rattle.dead_laws.specs.ArcLaws.{IsArcs}
use Rattle.dead_laws.proofs.DeadTests.{arcs-of, calm-at, choice-stays, clash-dead, dead-judged, excluded-dead, has_clash, is_stuck, stays, stays-remains, stuck-dead}
use Rattle.fapp_model.specs.declared.instance.Instance.{Instance}
use Rattle.fapp_model.specs.declared.limits.TheConstants.{S_SPAN}
use Rattle.fapp_model.specs.declared.literal.Literal.{Literal}
use Rattle.fapp_model.specs.declared.triple.Triple.{Triple}
use Rattle.fapp_model.specs.Assignments.{count_at}
use Rattle.fapp_model.specs.Instances.{IsInstance}
use Rattle.fapp_model.specs.Levels.{levels_of}
use Rattle.fapp_model.specs.Tags.{IsTagOf, has_limit, least_tag, mode_level}
use Rattle.fapp_model.specs.search.Arcs.{OutsideArc}
use Rattle.fapp_model.specs.search.Dead.{Dead, least, clash, outside_literal, no_choice_left, over_limit}
use Rattle.fapp_model.specs.search.Clashes.{clashes_with}
use Rattle.fapp_model.specs.search.Pairs.{Pair, limit_of}
use Rattle.fapp_model.specs.search.Partials.{IsPartial, literal, names}
use Rattle.fapp_model.specs.search.Weights.{added, added_pair, bad_further, inside, over_open, pair_with}
use Rattle.fapp_model.proofs.Anys.{none-member, passing}
use Rattle.fapp_model.proofs.Members.{from-range}
use Rattle.fapp_model.proofs.Sums.{range-sum-le}
use Rattle.fapp_model.proofs.LevelNumbers.{levels-few}
use Rattle.fapp_model.proofs.TagParts.{TagShape, limited, mode-limited, mode-plain, plain, shape_of}
use Rattle.fapp_tables.specs.Measures.{pair_code}
use Rattle.choice_counts.specs.CountedSums.{IsCountedSum, IsCalm, IsLeastAt}
use Rattle.choice_counts.specs.CalmLaws.{AliveIsCalm, DeadIsOverBound}
use Rattle.choice_counts.proofs.Bounds.{further_most, open_part, total_most}
use Rattle.choice_counts.proofs.Calm.{one_bound}
use Rattle.choice_counts.proofs.Coded.{at_most-code, code-at_most}
use Rattle.choice_counts.proofs.Remaining.{inside-kept}
use Rattle.fapp_model.specs.declared.level.TheConstants.{MAX_LEVELS}

-- ---- calm or dead

module _ (instance : Instance) (t : Triple) (literals : List Literal) (valid : IsInstance instance) (partial : IsPartial instance literals) where
  arcs_here : (arc : Literal → Bool) × IsArcs instance (mode_level t) arc
  arcs_here = arcs-of instance (mode_level t) valid

  calm_by : has_clash instance (mode_level t) literals ≡ false → list_any (λ a. not (arcs_here.0 a)) literals ≡ false →
      list_any (is_stuck instance (mode_level t) (λ a. not (arcs_here.0 a)) literals) (range_with_len 0 (length instance.paths)) ≡ false → IsCalm instance (mode_level t) literals
  calm_by calm kept loose = record {
    apart = calm-at instance (mode_level t) literals calm;
    within = λ a member. inside-kept instance (mode_level t) arcs_here.0 arcs_here.1 a (not_not (arcs_here.0 a) (none-member (λ b. not (arcs_here.0 b)) literals kept a member));
    remaining = λ path small free.
        let found = passing (stays instance (mode_level t) (λ a. not (arcs_here.0 a)) literals path) (range_with_len 0 (count_at instance path)) (choice-stays instance t (λ a. not (arcs_here.0 a)) literals partial calm kept loose path small free) in
        let inside : found.item < count_at instance path = from-range (count_at instance path) found.item found.member in
        let remains = stays-remains instance (mode_level t) (λ a. not (arcs_here.0 a)) literals path found.item found.passes in (
          found.item,
          inside,
          record {
            kept = inside-kept instance (mode_level t) arcs_here.0 arcs_here.1 (literal path found.item) (not_not (arcs_here.0 (literal path found.item)) (false_from_ne_true (not (arcs_here.0 (literal path found.item))) remains.kept));
            free = remains.free;
          },
        );
  }
    where
      not_not : (b : Bool) → not b ≡ false → b ≡ true
      not_not true e = refl
      not_not false e = absurd (both_ways true e refl)

  pub calm_or_dead : IsCalm instance (mode_level t) literals ⊎ Dead instance t literals
  calm_or_dead =
      let judged = dead-judged instance t literals arcs_here.0 partial arcs_here.1 in
      elim (cases_Bool (has_clash instance (mode_level t) literals)) [
        | inl e ↦ inr (clash-dead (OutsideArc instance (mode_level t)) instance t literals e)
        | inr calm ↦ elim (cases_Bool (list_any (λ a. not (arcs_here.0 a)) literals)) [
          | inl e ↦ inr (judged.1 (excluded-dead (λ a. not (arcs_here.0 a)) instance t literals e))
          | inr kept ↦ elim (cases_Bool (list_any (is_stuck instance (mode_level t) (λ a. not (arcs_here.0 a)) literals) (range_with_len 0 (length instance.paths)))) [
            | inl e ↦ inr (judged.1 (stuck-dead (λ a. not (arcs_here.0 a)) instance t literals e))
            | inr loose ↦ inl (calm_by calm kept loose)
          ]
        ]
      ]

-- ---- the second part of the sum is small

module _ (instance : Instance) (level : ℕ) (valid : IsInstance instance) (within : level ≤ MAX_LEVELS) (literals : List Literal) (partial : IsPartial instance literals) (fewest : ℕ → Pair)
    (each : (path : ℕ) → path < length instance.paths → names literals path ≡ false → IsLeastAt instance level literals path (fewest path)) where
  abbrev choose : (path : ℕ) (b : Bool) → names literals path ≡ b → (path < length instance.paths) ⊎ (length instance.paths ≤ path) → ℕ
  choose path true e r = 0
  choose path false e (inl small) = (each path small e).index
  choose path false e (inr past) = 0

  abbrev chosen_index : ℕ → ℕ
  chosen_index path = choose path (names literals path) refl (cases_lt path (length instance.paths))

  chosen_adds : (path : ℕ) → path < length instance.paths → (b : Bool) (e : names literals path ≡ b) (r : (path < length instance.paths) ⊎ (length instance.paths ≤ path)) →
      cond b 0 (fewest path).s ≤ cond b 0 (added instance (bad_further level) literals (literal path (choose path b e r)))
  chosen_adds path below true e r = omega arith
  chosen_adds path below false e (inl small) =
      let same : added instance (bad_further level) literals (literal path (each path small e).index) ≡ (fewest path).s = ap (λ (p : Pair). p.s) (each path small e).reached in
      let order : (fewest path).s ≤ added instance (bad_further level) literals (literal path (each path small e).index) = omega (arith, same) in
      order
  chosen_adds path below false e (inr past) = absurd (omega arith)

  pub total_small : (pair_with instance level literals fewest).s < S_SPAN
  total_small =
      let most = total_most (bad_further level) 10 (further_most level within) instance valid literals partial.distinct chosen_index (length instance.paths) in
      let bounded = range-sum-le (λ path. cond (names literals path) 0 (fewest path).s) (open_part (bad_further level) 10 (further_most level within) instance literals chosen_index) (length instance.paths)
      (λ path below. chosen_adds path below (names literals path) refl (cases_lt path (length instance.paths))) in
      omega (arith, most, bounded, valid.few_records)

-- ---- dead where calm

fits_of : (levels : ℕ) (t : Triple) → TagShape levels t → t.s < S_SPAN
fits_of levels t (limited some level small v s) = s
fits_of levels t (plain v s small) = omega arith

module _ (instance : Instance) (t : Triple) (literals : List Literal) (valid : IsInstance instance) (tag : IsTagOf instance t) (within : mode_level t ≤ MAX_LEVELS) (partial : IsPartial instance literals) (n : ℕ)
    (calm : IsCalm instance (mode_level t) literals) (bound : IsCountedSum instance (mode_level t) literals n) where
  fits : t.s < S_SPAN
  fits = fits_of (levels_of instance) t (shape_of instance t tag)

  pub over-dead : IsTrue (has_limit t) → t.v * S_SPAN + t.s ≤ n → Dead instance t literals
  over-dead some high = over_limit some bound.fewest bound.each
      (code-at_most (limit_of t) (pair_with instance (mode_level t) literals bound.fewest) fits (total_small instance (mode_level t) valid within literals partial bound.fewest bound.each)
      (omega (arith, high, bound.is)))

  pub dead-over : Dead instance t literals → (t ≡ least_tag) ⊎ (IsTrue (has_limit t) × (t.v * S_SPAN + t.s ≤ n))
  dead-over (least e) = inl e
  dead-over (clash a b first second bad) = absurd (both_ways _ (calm.apart a b first second) bad)
  dead-over (outside_literal a member out) = absurd (calm.within a member out)
  dead-over (no_choice_left path small free each) =
      let choice = calm.remaining path small free in
      absurd (elim (each choice.0 choice.1) [
        | inl out ↦ choice.2.kept out
        | inr bad ↦ both_ways (clashes_with instance (mode_level t) literals (literal path choice.0)) choice.2.free bad
      ])
  dead-over (over_limit some fewest each most) =
      let other : IsCountedSum instance (mode_level t) literals (pair_code (pair_with instance (mode_level t) literals fewest)) = record { fewest = fewest; each = each; is = refl } in
      let same = one_bound instance (mode_level t) literals n (pair_code (pair_with instance (mode_level t) literals fewest)) bound other in
      let high = at_most-code (limit_of t) (pair_with instance (mode_level t) literals fewest) fits (total_small instance (mode_level t) valid within literals partial fewest each) most in
      inr (some, omega (arith, same, high))

pub mode_few : (instance : Instance) (t : Triple) → IsTagOf instance t → mode_level t ≤ levels_of instance
mode_few instance t tag = by_shape (shape_of instance t tag)
  where
    by_shape : TagShape (levels_of instance) t → mode_level t ≤ levels_of instance
    by_shape (limited some level small v s) = omega (arith, mode-limited t some)
    by_shape (plain v s small) = omega (arith, mode-plain t v)

pub level_few : (instance : Instance) (level : ℕ) → level ≤ levels_of instance → level ≤ MAX_LEVELS
level_few instance level within = let few = levels-few instance in omega (arith, few.1)

pub alive_is_calm : AliveIsCalm
alive_is_calm instance t literals valid partial alive = elim (calm_or_dead instance t literals valid partial) [
  | inl calm ↦ calm
  | inr dead ↦ absurd (alive dead)
]

pub dead_is_over_bound : DeadIsOverBound
dead_is_over_bound instance t literals n valid tag partial calm bound =
    let within = level_few instance (mode_level t) (mode_few instance t tag) in (
      dead-over instance t literals valid tag within partial n calm bound,
      λ h. elim h [
        | inl e ↦ least e
        | inr over ↦ over-dead instance t literals valid tag within partial n calm bound over.0 over.1
      ],
    )
