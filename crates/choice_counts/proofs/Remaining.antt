-- What a tally says of its choice, and the least tally of its path.
use Rattle.std.proofs.Common.{◌≡◌, ◌⊎◌, ◌↔◌, ℕ, ◌+◌, ◌*◌, ◌/◌, ◌%◌, ◌<◌, ◌≤◌, Bool, true, false, cond, List, length, get_or, refl, sym, ap, ◌∙◌, subst, inl, inr, arith, sum_by, Option, Some, None, IsTrue}
use Rattle.std.proofs.Math.Nat.{mul-add-mod_self_right, mod-eq_of_lt}
use Rattle.std.proofs.lemmas.Bool.{both_ways, cases_Bool, cases_lt, false_from_ne_true, true_from_ne_false}
use Rattle.std.proofs.lemmas.Nat.{div-mul-add}
use Rattle.dead_laws.specs.ArcLaws.{IsArcs}
use Rattle.fapp_model.specs.declared.instance.Instance.{Instance}
use Rattle.fapp_model.specs.declared.limits.TheConstants.{S_SPAN}
use Rattle.fapp_model.specs.declared.literal.Literal.{Literal}
use Rattle.fapp_model.specs.Assignments.{count_at}
use Rattle.fapp_model.specs.Instances.{IsInstance}
use Rattle.fapp_model.specs.search.Arcs.{OutsideArc}
use Rattle.fapp_model.specs.search.Clashes.{clashes, clashes_with}
use Rattle.fapp_model.specs.search.Pairs.{Pair, IsPairAtMost}
use Rattle.fapp_model.specs.search.Partials.{IsPartial, literal}
use Rattle.fapp_model.specs.search.Weights.{added, added_pair}
use Rattle.fapp_tables.specs.Measures.{coded_part, pair_code}
use Rattle.choice_counts.specs.declared.rows.TheConstants.{HARD, NO_TALLY}
use Rattle.choice_counts.specs.Counts.{clash_part, hard_of, outside_part, tally_of, tallies_of}
use Rattle.choice_counts.specs.CountedSums.{IsLeastAt, IsLeastSum, RemainsAt}
use Rattle.choice_counts.specs.Tallies.{least_of_tallies, tally_at}
use Rattle.choice_counts.proofs.Bounds.{further_small, sum_small}
use Rattle.choice_counts.proofs.Clash.{any_zero, flag, flag_zero, zero_any}
use Rattle.choice_counts.proofs.Coded.{added_code, at_most-code, code-at_most}
use Rattle.choice_counts.proofs.Least.{Reached, least_below, least_reached}
use Rattle.choice_counts.proofs.RowMoves.{tally_in, tally_count}
use Rattle.fapp_model.specs.declared.level.TheConstants.{MAX_LEVELS}

abbrev pub away : Bool → ℕ
away b = cond b 0 1

pub away_zero : (b : Bool) → away b ≡ 0 → b ≡ true
away_zero true e = refl
away_zero false e = absurd (omega (arith, e))

pub zero_away : (b : Bool) → b ≡ true → away b ≡ 0
zero_away true e = refl
zero_away false e = absurd (let bad : false ≡ true = e in cc)

-- a choice that passes the test of the arcs is not outside them, and one that is not outside passes
module _ (instance : Instance) (level : ℕ) (arc : Literal → Bool) (arcs : IsArcs instance level arc) where
  pub inside-kept : (a : Literal) → arc a ≡ true → OutsideArc instance level a → ⊥
  inside-kept a e out = out ((arcs.members a).0 e)

  pub kept-inside : (a : Literal) → (OutsideArc instance level a → ⊥) → arc a ≡ true
  kept-inside a kept = true_from_ne_false (arc a) (λ e. kept (λ within. both_ways (arc a) e ((arcs.members a).1 within)))

  pub outside-away : (a : Literal) → OutsideArc instance level a → arc a ≡ false
  outside-away a out = false_from_ne_true (arc a) (λ e. inside-kept a e out)

  -- no literal clashes with a choice that is in the arcs
  pub hard-remains : (literals : List Literal) (a : Literal) → hard_of instance level arc literals a ≡ 0 → RemainsAt instance level literals a
  hard-remains literals a none = record {
    kept = inside-kept a (away_zero (arc a) (omega (arith, none)));
    free = zero_any (clash_part instance level a) (clashes instance level a) (λ b e. flag_zero (clashes instance level a b) e) literals (omega (arith, none));
  }

  pub remains-hard : (literals : List Literal) (a : Literal) → RemainsAt instance level literals a → hard_of instance level arc literals a ≡ 0
  remains-hard literals a r =
      let away = zero_away (arc a) (kept-inside a r.kept) in
      let none = any_zero (clash_part instance level a) (clashes instance level a) (λ b e. ap flag e) literals r.free in
      omega (arith, away, none)

  module _ (valid : IsInstance instance) (within : level ≤ MAX_LEVELS) (literals : List Literal) (partial : IsPartial instance literals) where
    small : (a : Literal) → added instance (coded_part level) literals a < HARD
    small a = omega (arith, sum_small instance valid level within literals partial.distinct a)

    -- a choice remains where its tally is below HARD, and then the tally is its sum
    pub tally-remains : (a : Literal) → tally_of instance level arc literals a < HARD → RemainsAt instance level literals a
    tally-remains a below = hard-remains literals a (omega (arith, below))

    pub remains-tally : (a : Literal) → RemainsAt instance level literals a → tally_of instance level arc literals a < HARD
    remains-tally a r = omega (arith, remains-hard literals a r, small a)

    pub tally-sum : (a : Literal) → RemainsAt instance level literals a → tally_of instance level arc literals a ≡ pair_code (added_pair instance level literals a)
    tally-sum a r = omega (arith, remains-hard literals a r, added_code instance level literals a)

    -- the two parts of a tally
    pub tally-high : (a : Literal) → tally_of instance level arc literals a / HARD ≡ hard_of instance level arc literals a
    tally-high a = div-mul-add (hard_of instance level arc literals a) HARD (added instance (coded_part level) literals a) (small a)

    pub tally-low : (a : Literal) → tally_of instance level arc literals a % HARD ≡ added instance (coded_part level) literals a
    tally-low a = mul-add-mod_self_right (hard_of instance level arc literals a) HARD (added instance (coded_part level) literals a) ∙ mod-eq_of_lt (small a)

    abbrev tallies : ℕ → List ℕ
    tallies path = tallies_of instance level arc literals path

    s_small : (a : Literal) → (added_pair instance level literals a).s < S_SPAN
    s_small a = further_small instance valid level within literals partial.distinct a

    -- the least tally of a path with a choice left is its least pair
    pub least-found : (path : ℕ) → least_of_tallies (tallies path) < HARD → (pair : Pair) × IsLeastAt instance level literals path pair × (least_of_tallies (tallies path) ≡ pair_code pair)
    least-found path below = elim (least_reached (tallies path)) [
      | inl none ↦ absurd (omega (arith, none, below))
      | inr reached ↦
          let k = reached.index in
          let inside : k < count_at instance path = omega (arith, reached.inside, tally_count instance level arc literals path) in
          let tally = tally_in instance level arc literals path k inside in
          let remains = tally-remains (literal path k) (omega (arith, tally, reached.is, below)) in
          let sum = tally-sum (literal path k) remains in (
            added_pair instance level literals (literal path k),
            record {
              index = k;
              in_range = inside;
              remains = remains;
              reached = refl;
              least = λ other small_other r.
                  let lower = least_below (tallies path) other (omega (arith, small_other, tally_count instance level arc literals path)) in
                  let there = tally_in instance level arc literals path other small_other in
                  code-at_most (added_pair instance level literals (literal path k)) (added_pair instance level literals (literal path other)) (s_small (literal path k)) (s_small (literal path other))
                  (omega (arith, lower, there, tally-sum (literal path other) r, reached.is, tally, sum));
            },
            omega (arith, reached.is, tally, sum),
          )
    ]

    -- and the other way round
    pub found-least : (path : ℕ) (pair : Pair) → IsLeastAt instance level literals path pair → (least_of_tallies (tallies path) ≡ pair_code pair) × (least_of_tallies (tallies path) < HARD)
    found-least path pair found =
        let a = literal path found.index in
        let here = tally_in instance level arc literals path found.index found.in_range in
        let lower = least_below (tallies path) found.index (omega (arith, found.in_range, tally_count instance level arc literals path)) in
        let low = remains-tally a found.remains in
        let best = least-found path (omega (arith, lower, here, low)) in
        let sum : tally_of instance level arc literals a ≡ pair_code pair = tally-sum a found.remains ∙ ap pair_code found.reached in
        let order = found.least best.1.index best.1.in_range best.1.remains in
        let s_pair : pair.s < S_SPAN = subst (λ (p : Pair). p.s < S_SPAN) found.reached (s_small a) in
        let above = at_most-code pair (added_pair instance level literals (literal path best.1.index)) s_pair (s_small (literal path best.1.index)) order in
        let there : pair_code (added_pair instance level literals (literal path best.1.index)) ≡ pair_code best.0 = ap pair_code best.1.reached in
        (omega (arith, lower, here, sum, above, there, best.2), omega (arith, lower, here, low))

    -- no choice of a path with a great least tally remains
    pub none-left : (path : ℕ) → HARD ≤ least_of_tallies (tallies path) → (index : ℕ) → index < count_at instance path → RemainsAt instance level literals (literal path index) → ⊥
    none-left path high index inside r =
        let lower = least_below (tallies path) index (omega (arith, inside, tally_count instance level arc literals path)) in
        omega (arith, lower, high, tally_in instance level arc literals path index inside, remains-tally (literal path index) r)

    pub some-left : (path index : ℕ) → index < count_at instance path → RemainsAt instance level literals (literal path index) → least_of_tallies (tallies path) < HARD
    some-left path index inside r = elim (cases_lt (least_of_tallies (tallies path)) HARD) [
      | inl low ↦ low
      | inr high ↦ absurd (none-left path high index inside r)
    ]
