-- The least level at which a count is 0, where counts don't rise with the level.
use Rattle.std.proofs.Common.{◌≡◌, ◌⊎◌, ℕ, zero, suc, ◌-◌, ◌<◌, ◌≤◌, true, false, get_or, sym, ap, ◌∙◌, subst, inl, inr, arith, ltb}
use Rattle.std.specs.List.{range_with_len}
use Rattle.std.proofs.lemmas.Bool.{cases_lt, ltb-true, ltb-false}
use Rattle.std.proofs.lemmas.List.Sums.{prefix_len-le-length, prefix_len_passes, prefix_len_stops}
use Rattle.std.proofs.lemmas.List.FromFn.{length-range_with_len, get_or-range_with_len}
use Rattle.fapp_model.specs.declared.triple.Triple.{Triple}
use Rattle.fapp_model.specs.Costs.{clear_level, count_below, sum_under, cost_by}
use Rattle.fapp_model.specs.search.Pairs.{Pair, IsPairBelow, limit_of}
use Rattle.fapp_model.specs.Triples.{IsBelow}

-- counts that are 0 from the last level on, and stay 0 where they are once
pub record IsFalling (levels : ℕ) (count : ℕ → ℕ) : Type 0 where
  pub ends : count levels ≡ 0
  pub stays : (m n : ℕ) → m ≤ n → count m ≡ 0 → count n ≡ 0

pub clear-le : (levels : ℕ) (count : ℕ → ℕ) → clear_level levels count ≤ levels
unfolding clear_level
clear-le levels count = omega (arith, prefix_len-le-length (λ level. ltb 0 (count level)) (range_with_len 0 levels), length-range_with_len 0 levels)

pub before-clear : (levels : ℕ) (count : ℕ → ℕ) (m : ℕ) → m < clear_level levels count → 0 < count m
unfolding clear_level
before-clear levels count m h =
    let small : m < levels = omega (arith, clear-le levels count) in
    let at : get_or (range_with_len 0 levels) m 0 ≡ m = omega (arith, get_or-range_with_len 0 levels m 0 small) in
    let pass = prefix_len_passes (λ level. ltb 0 (count level)) (range_with_len 0 levels) m 0 h in
    ltb-true 0 (count m) (subst (λ v. ltb 0 (count v) ≡ true) at pass)

pub at-clear : (levels : ℕ) (count : ℕ → ℕ) → count levels ≡ 0 → count (clear_level levels count) ≡ 0
unfolding clear_level
at-clear levels count ends =
    elim (cases_lt (clear_level levels count) levels) [
      | inl h ↦
          let at : get_or (range_with_len 0 levels) (clear_level levels count) 0 ≡ clear_level levels count = omega (arith, get_or-range_with_len 0 levels (clear_level levels count) 0 h) in
          let stop = prefix_len_stops (λ level. ltb 0 (count level)) (range_with_len 0 levels) 0 (omega (arith, length-range_with_len 0 levels)) in
          omega (arith, ltb-false 0 (count (clear_level levels count)) (subst (λ v. ltb 0 (count v) ≡ false) at stop))
      | inr h ↦
          let same : clear_level levels count ≡ levels = omega (arith, clear-le levels count) in
          subst (λ v. count v ≡ 0) (sym same) ends
    ]

pub clear-at-most : (levels : ℕ) (count : ℕ → ℕ) (level : ℕ) → count level ≡ 0 → clear_level levels count ≤ level
clear-at-most levels count level none =
    elim (cases_lt level (clear_level levels count)) [
      | inl h ↦ absurd (omega (arith, before-clear levels count level h))
      | inr h ↦ h
    ]

pub from-clear : (levels : ℕ) (count : ℕ → ℕ) → IsFalling levels count → (level : ℕ) → clear_level levels count ≤ level → count level ≡ 0
from-clear levels count falling level h = falling.stays (clear_level levels count) level h (at-clear levels count falling.ends)

pub count_below-is : (count : ℕ → ℕ) (k : ℕ) → 0 < k → count_below count k ≡ count (k - 1)
count_below-is count zero h = absurd (omega arith)
count_below-is count (suc n) h = ap count (omega arith)

-- the counts below a level, as a pair
abbrev pub counts_below : (ℕ → ℕ) → ℕ → Pair
counts_below count level = record { v = count (level - 1); s = sum_under count (level - 1) }

pub below-limit-to : (levels : ℕ) (count : ℕ → ℕ) → IsFalling levels count → (t : Triple) → 0 < t.k → 0 < t.v → IsBelow (cost_by levels count) t → (count t.k ≡ 0) × IsPairBelow (counts_below count t.k) (limit_of t)
unfolding cost_by
below-limit-to levels count falling t low some (inl h) =
    let none : count (t.k - 1) ≡ 0 = from-clear levels count falling (t.k - 1) (omega arith) in
    (from-clear levels count falling t.k (omega arith), inl (omega arith))
below-limit-to levels count falling t low some (inr (same, h)) =
    let e : count_below count (clear_level levels count) ≡ count (t.k - 1) = ap (count_below count) same ∙ count_below-is count t.k low in
    let f : sum_under count (clear_level levels count - 1) ≡ sum_under count (t.k - 1) = ap (λ n. sum_under count (n - 1)) same in
    (from-clear levels count falling t.k (omega arith), below_at _ _ _ _ t.v t.s e f h)
  where
    below_at : (v s v' s' w r : ℕ) → v ≡ v' → s ≡ s' → (v < w) ⊎ ((v ≡ w) × (s < r)) → (v' < w) ⊎ ((v' ≡ w) × (s' < r))
    below_at v s v' s' w r e f (inl h) = inl (omega arith)
    below_at v s v' s' w r e f (inr h) = inr (omega (arith, h.0), omega (arith, h.1))

pub below-limit-from : (levels : ℕ) (count : ℕ → ℕ) → (t : Triple) → 0 < t.k → count t.k ≡ 0 → IsPairBelow (counts_below count t.k) (limit_of t) → IsBelow (cost_by levels count) t
unfolding cost_by
below-limit-from levels count t low none h =
    elim (cases_lt (clear_level levels count) t.k) [
      | inl small ↦ inl small
      | inr large ↦
          let same : clear_level levels count ≡ t.k = omega (arith, clear-at-most levels count t.k none) in
          let e : count (t.k - 1) ≡ count_below count (clear_level levels count) = sym (ap (count_below count) same ∙ count_below-is count t.k low) in
          let f : sum_under count (t.k - 1) ≡ sum_under count (clear_level levels count - 1) = sym (ap (λ n. sum_under count (n - 1)) same) in
          inr (same, below_at _ _ _ _ t.v t.s e f h)
    ]
  where
    below_at : (v s v' s' w r : ℕ) → v ≡ v' → s ≡ s' → (v < w) ⊎ ((v ≡ w) × (s < r)) → (v' < w) ⊎ ((v' ≡ w) × (s' < r))
    below_at v s v' s' w r e f (inl h) = inl (omega arith)
    below_at v s v' s' w r e f (inr h) = inr (omega (arith, h.0), omega (arith, h.1))

pub below-level-to : (levels : ℕ) (count : ℕ → ℕ) → IsFalling levels count → (t : Triple) → t.v ≡ 0 → t.s ≡ 0 → IsBelow (cost_by levels count) t → count (t.k - 1) ≡ 0
unfolding cost_by
below-level-to levels count falling t none nothing (inl h) = from-clear levels count falling (t.k - 1) (omega arith)
below-level-to levels count falling t none nothing (inr (same, inl h)) = absurd (omega arith)
below-level-to levels count falling t none nothing (inr (same, inr h)) = absurd (omega (arith, h.1))

pub below-level-from : (levels : ℕ) (count : ℕ → ℕ) → (t : Triple) → 0 < t.k → count (t.k - 1) ≡ 0 → IsBelow (cost_by levels count) t
unfolding cost_by
below-level-from levels count t low none = inl (omega (arith, clear-at-most levels count (t.k - 1) none))
