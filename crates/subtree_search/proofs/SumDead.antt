-- A choice that is dead by the sum, without being pushed.
use Rattle.std.proofs.Common.{◌≡◌, ◌⊎◌, ℕ, ◌+◌, ◌*◌, ◌<◌, ◌≤◌, Bool, true, false, cond, eqb, IsTrue, List, ◌∷◌, length, Some, All, Contains, refl, sym, ap, subst, ◌∙◌, inl, inr, ⊎_elim, arith, sum_by}
use Rattle.std.specs.List.{list_any, range_with_len}
use Rattle.std.proofs.lemmas.Bool.{cases_Bool, cases_lt, eq-eqb, eqb-true, lt-ltb, true≢false, false_from_ne_true}
use Rattle.std.proofs.lemmas.List.Elements.{All-contains}
use Rattle.fapp_model.specs.declared.instance.Instance.{Instance}
use Rattle.fapp_model.specs.declared.limits.TheConstants.{S_SPAN}
use Rattle.fapp_model.specs.declared.literal.Literal.{Literal}
use Rattle.fapp_model.specs.declared.triple.Triple.{Triple}
use Rattle.fapp_model.specs.Assignments.{count_at}
use Rattle.fapp_model.specs.Instances.{IsInstance}
use Rattle.fapp_model.specs.Tags.{IsTagOf, has_limit, mode_level, triple_from}
use Rattle.fapp_model.specs.search.Dead.{Dead, over_limit}
use Rattle.fapp_model.specs.search.Pairs.{IsPairAtMost, Pair, limit_of}
use Rattle.fapp_model.specs.search.Partials.{HasAll, IsLiteral, IsPartial, literal, names}
use Rattle.fapp_model.specs.search.Weights.{added, added_pair, bad_before, bad_further, over_open, pair_with}
use Rattle.fapp_model.proofs.Anys.{none-member}
use Rattle.fapp_model.proofs.Members.{All-from_members, at_front, behind, front_or_behind}
use Rattle.fapp_model.proofs.Sums.{range-sum-le}
use Rattle.fapp_tables.specs.Measures.{pair_code}
use Rattle.dead_laws.proofs.DeadLower.{IsPairAtMost-trans}
use Rattle.dead_laws.proofs.DeadMore.{free-fewer}
use Rattle.dead_laws.proofs.DeadTests.{arcs-of}
use Rattle.dead_laws.proofs.MoreLiterals.{added-grows, names-more, pair-grows}
use Rattle.dead_laws.proofs.PairSums.{parts-at_most}
use Rattle.dead_laws.proofs.Picks.{head-not-named}
use Rattle.choice_counts.specs.CountedSums.{IsCountedSum, IsCalm, IsLeastAt, IsLeastSum}
use Rattle.choice_counts.proofs.Bounds.{further_most, open_part, total_most}
use Rattle.choice_counts.proofs.Calm.{bound_is, one_least}
use Rattle.choice_counts.proofs.Coded.{code-at_most}
use Rattle.choice_counts.proofs.DeadByBound.{calm_or_dead, level_few, mode_few}
use Rattle.choice_counts.proofs.OpenSums.{change_at}
use Rattle.fapp_model.specs.declared.level.TheConstants.{MAX_LEVELS}

-- ---- the second part of such a sum is small

module _ (instance : Instance) (level : ℕ) (valid : IsInstance instance) (within : level ≤ MAX_LEVELS) (literals : List Literal) (partial : IsPartial instance literals) (fewest : ℕ → Pair)
    (each : (path : ℕ) → path < length instance.paths → names literals path ≡ false → (index : ℕ) × ((fewest path).s ≤ added instance (bad_further level) literals (literal path index))) where
  abbrev choose : (path : ℕ) (b : Bool) → names literals path ≡ b → (path < length instance.paths) ⊎ (length instance.paths ≤ path) → ℕ
  choose path true e r = 0
  choose path false e (inl small) = (each path small e).0
  choose path false e (inr past) = 0

  abbrev chosen_index : ℕ → ℕ
  chosen_index path = choose path (names literals path) refl (cases_lt path (length instance.paths))

  chosen_adds : (path : ℕ) → path < length instance.paths → (b : Bool) (e : names literals path ≡ b) (r : (path < length instance.paths) ⊎ (length instance.paths ≤ path)) →
      cond b 0 (fewest path).s ≤ cond b 0 (added instance (bad_further level) literals (literal path (choose path b e r)))
  chosen_adds path below true e r = omega arith
  chosen_adds path below false e (inl small) = (each path small e).1
  chosen_adds path below false e (inr past) = absurd (omega arith)

  pub any-small : (pair_with instance level literals fewest).s < S_SPAN
  any-small =
      let most = total_most (bad_further level) 10 (further_most level within) instance valid literals partial.distinct chosen_index (length instance.paths) in
      let bounded = range-sum-le (λ path. cond (names literals path) 0 (fewest path).s) (open_part (bad_further level) 10 (further_most level within) instance literals chosen_index) (length instance.paths)
      (λ path below. chosen_adds path below (names literals path) refl (cases_lt path (length instance.paths))) in
      omega (arith, most, bounded, valid.few_records)

-- ---- with a choice more

module _ (instance : Instance) (valid : IsInstance instance) (t : Triple) (tag : IsTagOf instance t) (some : IsTrue (has_limit t)) (fits : t.s < S_SPAN) (literals : List Literal) (partial : IsPartial instance literals) (a : Literal) (longer : IsPartial instance (a ∷ literals))
    (n : ℕ) (bound : IsCountedSum instance (mode_level t) literals n) (pair : Pair) (least : IsLeastAt instance (mode_level t) literals a.path pair) (high : pair_code (limit_of t) + pair_code pair ≤ n + pair_code (added_pair instance (mode_level t) literals a)) where
  level : ℕ
  level = mode_level t

  few : mode_level t ≤ MAX_LEVELS
  few = level_few instance (mode_level t) (mode_few instance t tag)

  home : IsLiteral instance a
  home = All-contains (IsLiteral instance) (a ∷ literals) a longer.in_range (at_front a literals)

  apart : names literals a.path ≡ false
  apart = head-not-named a literals longer.distinct

  -- its own pair for its path, and the least for the others
  abbrev pick : Bool → ℕ → Pair
  pick true path = added_pair instance (mode_level t) literals a
  pick false path = bound.fewest path

  abbrev picked : ℕ → Pair
  picked path = pick (eqb a.path path) path

  least-is : bound.fewest a.path ≡ pair
  least-is = one_least instance (mode_level t) literals a.path (bound.fewest a.path) pair (bound.each a.path home.path apart) least

  changed : (f : Pair → ℕ) → over_open instance literals (λ path. f (picked path)) + f (bound.fewest a.path) ≡ over_open instance literals (λ path. f (bound.fewest path)) + f (added_pair instance (mode_level t) literals a)
  changed f =
      let here : eqb a.path a.path ≡ true = eq-eqb a.path a.path refl in
      let own : cond (names literals a.path) 0 (f (bound.fewest a.path)) ≡ f (bound.fewest a.path) = ap (λ b. cond b 0 (f (bound.fewest a.path))) apart in
      let new : cond (names literals a.path) 0 (f (picked a.path)) ≡ f (added_pair instance (mode_level t) literals a) = ap (λ b. cond b 0 (f (picked a.path))) apart ∙ ap (λ b. f (pick b a.path)) here in
      let change = change_at (λ path. cond (names literals path) 0 (f (picked path))) (λ path. cond (names literals path) 0 (f (bound.fewest path))) (length instance.paths) a.path home.path (λ k below other.
      ap (λ b. cond (names literals k) 0 (f (pick b k))) (false_from_ne_true (eqb a.path k) (λ e. other (sym (eqb-true a.path k e))))) in
      omega (arith, change, own, new)

  code-is : pair_code (pair_with instance (mode_level t) literals picked) + pair_code pair ≡ n + pair_code (added_pair instance (mode_level t) literals a)
  code-is = omega (arith, changed (λ p. p.v), changed (λ p. p.s), bound.is, ap (λ (p : Pair). p.v) least-is, ap (λ (p : Pair). p.s) least-is)

  picks : (b : Bool) (path : ℕ) → eqb a.path path ≡ b → path < length instance.paths → names literals path ≡ false → (index : ℕ) × ((pick b path).s ≤ added instance (bad_further (mode_level t)) literals (literal path index))
  picks true path e small free = (a.choice, subst (λ p. added instance (bad_further (mode_level t)) literals a ≤ added instance (bad_further (mode_level t)) literals (literal p a.choice)) (eqb-true a.path path e) (omega arith))
  picks false path e small free =
      let found = bound.each path small free in (
        found.index,
        omega (arith, ap (λ (p : Pair). p.s) found.reached),
      )

  limit-low : IsPairAtMost (limit_of t) (pair_with instance (mode_level t) literals picked)
  limit-low = code-at_most (limit_of t) (pair_with instance (mode_level t) literals picked) fits
      (any-small instance (mode_level t) valid few literals partial picked (λ path small free. picks (eqb a.path path) path refl small free))
      (omega (arith, code-is, high))

  -- where the literals with the choice are calm, their sum is no less
  module _ (m : ℕ) (other : IsCountedSum instance (mode_level t) (a ∷ literals) m) where
    has : HasAll (a ∷ literals) literals
    has = All-from_members (Contains (a ∷ literals)) literals (λ b k. behind a literals b k)

    one : (x : Literal) → Contains (a ∷ literals) x → names literals x.path ≡ false → IsPairAtMost (picked x.path) (added_pair instance (mode_level t) literals x)
    one x k free = ⊎_elim
        (λ first. subst (λ y. IsPairAtMost (picked y.path) (added_pair instance (mode_level t) literals y)) first
        (subst (λ b. IsPairAtMost (pick b a.path) (added_pair instance (mode_level t) literals a)) (sym (eq-eqb a.path a.path refl)) (parts-at_most _ _ _ _ (omega arith) (omega arith))))
        (λ later. absurd (true≢false (sym (eq-eqb x.path x.path refl) ∙ none-member (λ (y : Literal). eqb y.path x.path) literals free x later)))
        (front_or_behind a literals x k)

    spare : (path : ℕ) → path < length instance.paths → names (a ∷ literals) path ≡ false → IsPairAtMost (picked path) (other.fewest path)
    spare path small free =
        let found = other.each path small free in
        let b = literal path found.index in
        let here = (bound.each path small (names-more literals (a ∷ literals) has path free)).least found.index found.in_range (record {
          kept = found.remains.kept;
          free = free-fewer instance (mode_level t) literals (a ∷ literals) has b found.remains.free;
        }) in
        subst (λ c. IsPairAtMost (pick c path) (other.fewest path)) (sym (none-member (λ (y : Literal). eqb y.path path) (a ∷ literals) free a (at_front a literals)))
        (subst (IsPairAtMost (bound.fewest path)) found.reached
        (IsPairAtMost-trans (bound.fewest path) (added_pair instance (mode_level t) literals b) (added_pair instance (mode_level t) (a ∷ literals) b) here
        (parts-at_most _ _ _ _ (added-grows instance (bad_before (mode_level t)) literals (a ∷ literals) partial.distinct longer.distinct has b) (added-grows instance (bad_further (mode_level t)) literals (a ∷ literals) partial.distinct longer.distinct has b))))

    grown : IsPairAtMost (pair_with instance (mode_level t) literals picked) (pair_with instance (mode_level t) (a ∷ literals) other.fewest)
    grown = pair-grows instance (mode_level t) literals (a ∷ literals) partial.distinct longer.distinct has
        (All-from_members (λ (x : Literal). x.path < length instance.paths) (a ∷ literals) (λ x k. (All-contains (IsLiteral instance) (a ∷ literals) x longer.in_range k).path)) picked other.fewest one spare

    over : Dead instance t (a ∷ literals)
    over = over_limit some other.fewest other.each
        (IsPairAtMost-trans (limit_of t) (pair_with instance (mode_level t) literals picked) (pair_with instance (mode_level t) (a ∷ literals) other.fewest) limit-low grown)

  pub sum-dead : Dead instance t (a ∷ literals)
  sum-dead = ⊎_elim
      (λ calm.
      let arcs = arcs-of instance (mode_level t) valid in
      over _ (bound_is instance (mode_level t) arcs.0 arcs.1 (a ∷ literals) valid few longer calm))
      (λ dead. dead)
      (calm_or_dead instance t (a ∷ literals) valid longer)

-- as the counts of a level tell it
pub over-sum : (instance : Instance) (valid : IsInstance instance) (code : ℕ) (tag : IsTagOf instance (triple_from code)) (level : ℕ) → level ≡ mode_level (triple_from code) → 0 < (triple_from code).v →
    (literals : List Literal) (partial : IsPartial instance literals) (a : Literal) (longer : IsPartial instance (a ∷ literals)) (n : ℕ) → IsCountedSum instance level literals n → (m : ℕ) → IsLeastSum instance level literals a.path (Some m) →
    (w : ℕ) → w ≡ pair_code (added_pair instance level literals a) → pair_code (limit_of (triple_from code)) + m ≤ n + w → Dead instance (triple_from code) (a ∷ literals)
over-sum instance valid code tag level same some literals partial a longer n bound m least w added-is high =
    let l = subst (λ k. IsLeastSum instance k literals a.path (Some m)) same least in
    let w-is : w ≡ pair_code (added_pair instance (mode_level (triple_from code)) literals a) = added-is ∙ ap (λ k. pair_code (added_pair instance k literals a)) same in
    sum-dead instance valid (triple_from code) tag (lt-ltb 0 (triple_from code).v some) (omega arith) literals partial a longer n (subst (λ k. IsCountedSum instance k literals n) same bound) l.0 l.1 (omega (arith, high, w-is, l.2))
