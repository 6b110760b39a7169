-- Literals are calm exactly where nothing is counted against them, and then what is counted is their sum.
use Rattle.std.proofs.Common.{◌≡◌, ◌⊎◌, ◌↔◌, ℕ, ◌+◌, ◌*◌, ◌/◌, ◌%◌, ◌<◌, ◌≤◌, Bool, true, false, cond, ltb, List, length, get_or, refl, sym, ap, ◌∙◌, subst, inl, inr, arith, sum_by, All, Contains}
use Rattle.std.specs.List.{range_with_len}
use Rattle.std.proofs.Math.Nat.{div-add-mod, mod-eq_of_lt, mul-add-mod_self_right}
use Rattle.std.proofs.lemmas.Bool.{both_ways, cases_Bool, cases_lt, cases_order, lt-ltb, ltb-false, ltb-true}
use Rattle.std.proofs.lemmas.List.Elements.{All-contains}
use Rattle.std.proofs.lemmas.Nat.{div-mul-add}
use Rattle.dead_laws.specs.ArcLaws.{IsArcs}
use Rattle.fapp_model.specs.declared.instance.Instance.{Instance}
use Rattle.fapp_model.specs.declared.limits.TheConstants.{S_SPAN}
use Rattle.fapp_model.specs.declared.literal.Literal.{Literal}
use Rattle.fapp_model.specs.Assignments.{count_at}
use Rattle.fapp_model.specs.Instances.{IsInstance}
use Rattle.fapp_model.specs.search.Arcs.{OutsideArc}
use Rattle.fapp_model.specs.search.Clashes.{clashes}
use Rattle.fapp_model.specs.search.Pairs.{Pair, IsPairAtMost}
use Rattle.fapp_model.specs.search.Partials.{IsPartial, literal, names}
use Rattle.fapp_model.specs.search.Weights.{added_pair, bad_before, bad_further, inside, over_open, pair_with}
use Rattle.fapp_model.proofs.Sums.{at-range, none-sum_by, range-sum-same, sum_by-none}
use Rattle.fapp_model.proofs.Members.{All-from_members, All-range}
use Rattle.fapp_tables.specs.Measures.{coded_part, pair_code}
use Rattle.choice_counts.specs.declared.rows.TheConstants.{HARD}
use Rattle.choice_counts.specs.Counts.{clash_pairs, clash_part, outside_part, outsiders, tallies_of}
use Rattle.choice_counts.specs.CountedSums.{IsCountedSum, IsCalm, IsLeastAt, RemainsAt}
use Rattle.choice_counts.specs.Tallies.{least_of_tallies, least_part, stuck_part}
use Rattle.choice_counts.proofs.Bounds.{further_small}
use Rattle.choice_counts.proofs.Clash.{flag, flag_zero}
use Rattle.choice_counts.proofs.Coded.{code, inside_code, sum_by-code}
use Rattle.dead_laws.proofs.PlanLiterals.{same-pair}
use Rattle.choice_counts.proofs.Remaining.{away_zero, inside-kept, kept-inside, least-found, some-left, zero_away}
use Rattle.fapp_model.specs.declared.level.TheConstants.{MAX_LEVELS}

-- the pair that a number stands for
abbrev pub pair_from : ℕ → Pair
pair_from n = record { v = n / S_SPAN; s = n % S_SPAN }

pair_from-code : (p : Pair) → p.s < S_SPAN → pair_from (pair_code p) ≡ p
pair_from-code p small = same-pair (pair_from (pair_code p)) p (div-mul-add p.v S_SPAN p.s small) (mul-add-mod_self_right p.v S_SPAN p.s ∙ mod-eq_of_lt small)

abbrev stuck_bit : Bool → ℕ
stuck_bit b = cond b 0 1

-- two least pairs of a path are one
pub one_least : (instance : Instance) (level : ℕ) (literals : List Literal) (path : ℕ) (p q : Pair) → IsLeastAt instance level literals path p → IsLeastAt instance level literals path q → p ≡ q
one_least instance level literals path p q a b =
    both p q (subst (IsPairAtMost p) b.reached (a.least b.index b.in_range b.remains)) (subst (IsPairAtMost q) a.reached (b.least a.index a.in_range a.remains))
  where
    both : (p q : Pair) → IsPairAtMost p q → IsPairAtMost q p → p ≡ q
    both p q (inl h) (inl g) = absurd (omega arith)
    both p q (inl h) (inr g) = absurd (omega (arith, g.0))
    both p q (inr h) (inl g) = absurd (omega (arith, h.0))
    both p q (inr h) (inr g) = same-pair p q h.0 (omega (arith, h.1, g.1))

-- the sum of a level is one number
pub one_bound : (instance : Instance) (level : ℕ) (literals : List Literal) (m n : ℕ) → IsCountedSum instance level literals m → IsCountedSum instance level literals n → m ≡ n
one_bound instance level literals m n a b =
    let same : (f : Pair → ℕ) → over_open instance literals (λ path. f (a.fewest path)) ≡ over_open instance literals (λ path. f (b.fewest path)) = λ f.
    range-sum-same (λ path. cond (names literals path) 0 (f (a.fewest path))) (λ path. cond (names literals path) 0 (f (b.fewest path))) (length instance.paths) (λ path below. at f path below (names literals path) refl) in
    omega (arith, a.is, b.is, same (λ (p : Pair). p.v), same (λ (p : Pair). p.s))
  where
    at : (f : Pair → ℕ) (path : ℕ) → path < length instance.paths → (t : Bool) → names literals path ≡ t → cond t 0 (f (a.fewest path)) ≡ cond t 0 (f (b.fewest path))
    at f path below true e = refl
    at f path below false e = ap f (one_least instance level literals path (a.fewest path) (b.fewest path) (a.each path below e) (b.each path below e))

module _ (instance : Instance) (level : ℕ) (arc : Literal → Bool) (arcs : IsArcs instance level arc) (literals : List Literal) where
  -- ---- what is counted among the literals

  pub quiet-apart : clash_pairs instance level literals + outsiders arc literals * 2 ≡ 0 → (a b : Literal) → Contains literals a → Contains literals b → clashes instance level a b ≡ false
  quiet-apart none a b first second =
      let rows = none-sum_by (λ x. sum_by (clash_part instance level x) literals) literals (omega (arith, none)) in
      let row = All-contains (λ x. sum_by (clash_part instance level x) literals ≡ 0) literals a rows first in
      flag_zero (clashes instance level a b) (All-contains (λ y. clash_part instance level a y ≡ 0) literals b (none-sum_by (clash_part instance level a) literals row) second)

  pub quiet-within : clash_pairs instance level literals + outsiders arc literals * 2 ≡ 0 → (a : Literal) → Contains literals a → OutsideArc instance level a → ⊥
  quiet-within none a member =
      inside-kept instance level arc arcs a (away_zero (arc a) (All-contains (λ x. outside_part arc x ≡ 0) literals a (none-sum_by (outside_part arc) literals (omega (arith, none))) member))

  pub calm-quiet : IsCalm instance level literals → clash_pairs instance level literals + outsiders arc literals * 2 ≡ 0
  calm-quiet calm =
      let rows = sum_by-none (λ x. sum_by (clash_part instance level x) literals) literals (All-from_members (λ x. sum_by (clash_part instance level x) literals ≡ 0) literals (λ a first.
      sum_by-none (clash_part instance level a) literals (All-from_members (λ y. clash_part instance level a y ≡ 0) literals (λ b second. ap flag (calm.apart a b first second))))) in
      let away = sum_by-none (outside_part arc) literals (All-from_members (λ x. outside_part arc x ≡ 0) literals (λ a member. zero_away (arc a) (kept-inside instance level arc arcs a (calm.within a member)))) in
      omega (arith, rows, away)

  -- ---- what is counted for the further paths

  abbrev least_tally : ℕ → ℕ
  least_tally path = least_of_tallies (tallies_of instance level arc literals path)

  -- how many have no choice left, and the sum of the least tallies of the others
  abbrev pub stuck_paths : ℕ
  stuck_paths = over_open instance literals (λ path. stuck_part (least_tally path))

  abbrev pub least_sum : ℕ
  least_sum = over_open instance literals (λ path. least_part (least_tally path))

  module _ (valid : IsInstance instance) (within : level ≤ MAX_LEVELS) (partial : IsPartial instance literals) where
    pub loose-low : stuck_paths ≡ 0 → (path : ℕ) → path < length instance.paths → names literals path ≡ false → least_tally path < HARD
    loose-low none path below free =
        let each = none-sum_by (λ p. cond (names literals p) 0 (stuck_part (least_tally p))) (range_with_len 0 (length instance.paths)) none in
        let here : cond (names literals path) 0 (stuck_part (least_tally path)) ≡ 0 = at-range (λ p. let n : ℕ = cond (names literals p) 0 (stuck_part (least_tally p)) in n ≡ 0) (length instance.paths) each path below in
        let bit : stuck_part (least_tally path) ≡ 0 = ap (λ t. cond t 0 (stuck_part (least_tally path))) (sym free) ∙ here in
        ltb-true (least_tally path) HARD (away_zero (ltb (least_tally path) HARD) bit)

    pub loose-remaining : stuck_paths ≡ 0 → (path : ℕ) → path < length instance.paths → names literals path ≡ false →
        (index : ℕ) × (index < count_at instance path) × RemainsAt instance level literals (literal path index)
    loose-remaining none path below free =
        let found = least-found instance level arc arcs valid within literals partial path (loose-low none path below free) in
        (found.1.index, found.1.in_range, found.1.remains)

    calm-low : IsCalm instance level literals → (path : ℕ) → path < length instance.paths → names literals path ≡ false → least_tally path < HARD
    calm-low calm path below free =
        let choice = calm.remaining path below free in
        some-left instance level arc arcs valid within literals partial path choice.0 choice.1 choice.2

    pub calm-loose : IsCalm instance level literals → stuck_paths ≡ 0
    calm-loose calm = sum_by-none (λ p. cond (names literals p) 0 (stuck_part (least_tally p))) (range_with_len 0 (length instance.paths))
        (All-range (λ p. let n : ℕ = cond (names literals p) 0 (stuck_part (least_tally p)) in n ≡ 0) (length instance.paths) (λ path below. by_cases path below (names literals path) refl))
      where
        by_cases : (path : ℕ) → path < length instance.paths → (t : Bool) → names literals path ≡ t → cond t 0 (stuck_part (least_tally path)) ≡ 0
        by_cases path below true e = refl
        by_cases path below false e = ap stuck_bit (lt-ltb (least_tally path) HARD (calm-low calm path below e))

    -- calm is no conflict, and no path without a choice
    pub calm_is : IsCalm instance level literals ↔ ((clash_pairs instance level literals + outsiders arc literals * 2 ≡ 0) × (stuck_paths ≡ 0))
    calm_is = (
      λ calm. (calm-quiet calm, calm-loose calm),
      λ h. record { apart = quiet-apart h.0; within = quiet-within h.0; remaining = loose-remaining h.1 },
    )

    -- ---- the sum

    fewest : ℕ → Pair
    fewest path = pair_from (least_tally path)

    fewest_is : IsCalm instance level literals → (path : ℕ) → path < length instance.paths → names literals path ≡ false → IsLeastAt instance level literals path (pair_from (least_tally path))
    fewest_is calm path below free =
        let found = least-found instance level arc arcs valid within literals partial path (calm-low calm path below free) in
        let s_small : found.0.s < S_SPAN = subst (λ (p : Pair). p.s < S_SPAN) found.1.reached (further_small instance valid level within literals partial.distinct (literal path found.1.index)) in
        subst (IsLeastAt instance level literals path) (sym (ap pair_from found.2 ∙ pair_from-code found.0 s_small)) found.1

    least_is : IsCalm instance level literals → least_sum ≡ code (over_open instance literals (λ path. (pair_from (least_tally path)).v)) (over_open instance literals (λ path. (pair_from (least_tally path)).s))
    least_is calm =
        range-sum-same (λ path. cond (names literals path) 0 (least_part (least_tally path))) (λ path. code (cond (names literals path) 0 (pair_from (least_tally path)).v) (cond (names literals path) 0 (pair_from (least_tally path)).s)) (length instance.paths) (λ path below. by_cases path below (names literals path) refl)
        ∙ sum_by-code (λ path. cond (names literals path) 0 (pair_from (least_tally path)).v) (λ path. cond (names literals path) 0 (pair_from (least_tally path)).s) (range_with_len 0 (length instance.paths))
      where
        whole : (n : ℕ) → n ≡ code (n / S_SPAN) (n % S_SPAN)
        whole n = omega (arith, div-add-mod n S_SPAN)

        by_cases : (path : ℕ) → path < length instance.paths → (t : Bool) → names literals path ≡ t → cond t 0 (least_part (least_tally path)) ≡ code (cond t 0 (pair_from (least_tally path)).v) (cond t 0 (pair_from (least_tally path)).s)
        by_cases path below true e = omega arith
        by_cases path below false e = ap (λ t. cond t (least_tally path) 0) (lt-ltb (least_tally path) HARD (calm-low calm path below e)) ∙ whole (least_tally path)

    pub bound_is : IsCalm instance level literals → IsCountedSum instance level literals (inside instance (coded_part level) literals + least_sum)
    bound_is calm = record {
      fewest = λ path. pair_from (least_tally path);
      each = fewest_is calm;
      is = omega (arith, inside_code instance level literals, least_is calm);
    }
