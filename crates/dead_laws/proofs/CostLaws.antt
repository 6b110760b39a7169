-- Costs are tags, and what a tag asks of an assignment that costs less.
use Rattle.std.proofs.Common.{◌≡◌, ℕ, zero, suc, ◌*◌, ◌-◌, ◌<◌, ◌≤◌, List, refl, sym, ap, ◌∙◌, subst, inl, inr, arith}
use Rattle.std.proofs.lemmas.Bool.{ltb-true, lt-ltb}
use Rattle.std.proofs.Math.Nat.{mul-le-mul}
use Rattle.fapp_model.specs.declared.instance.Instance.{Instance}
use Rattle.fapp_model.specs.declared.triple.Triple.{Triple}
use Rattle.fapp_model.specs.declared.level.TheConstants.{MAX_LEVELS}
use Rattle.fapp_model.specs.declared.limits.TheConstants.{MAX_RECORDS, S_SPAN}
use Rattle.fapp_model.specs.Costs.{clear_level, count_below, cost, cost_by, sum_under, violations}
use Rattle.fapp_model.specs.Instances.{IsInstance}
use Rattle.fapp_model.specs.Levels.{levels_of}
use Rattle.fapp_model.specs.search.Modes.{IsWithin}
use Rattle.fapp_model.specs.search.Pairs.{IsPairBelow, limit_of}
use Rattle.fapp_model.specs.Tags.{IsTagOf, least_tag}
use Rattle.fapp_model.specs.Triples.{IsBelow}
use Rattle.fapp_model.proofs.ClearLevels.{before-clear, clear-le, counts_below, below-limit-to, below-limit-from, below-level-to, below-level-from}
use Rattle.fapp_model.proofs.LevelNumbers.{levels-few}
use Rattle.fapp_model.proofs.TagParts.{TagShape, limited, plain, shape_of, mode-limited, mode-plain, tag_from_limited, tag_from_plain}
use Rattle.fapp_model.proofs.Violations.{violations-falling, violations-le, sum_under-le}

small_sum : (n r s : ℕ) → n ≤ MAX_LEVELS → r ≤ MAX_RECORDS → s ≤ n * r → s < S_SPAN
small_sum n r s few records h = omega (arith, mul-le-mul few records)

pub cost-tag : (instance : Instance) (plan : List ℕ) → IsInstance instance → IsTagOf instance (cost instance plan)
unfolding cost_by sum_under
cost-tag instance plan v = by_level (clear_level (levels_of instance) (violations instance plan)) refl
  where
    by_level : (k : ℕ) → clear_level (levels_of instance) (violations instance plan) ≡ k → IsTagOf instance (cost instance plan)
    by_level zero e =
        tag_from_plain (levels_of instance) (cost instance plan) (ap (count_below (violations instance plan)) e) (ap (λ n. sum_under (violations instance plan) (n - 1)) e) (omega (arith, e))
    by_level (suc k) e =
        let count = violations instance plan in
        let last : count_below count (clear_level (levels_of instance) count) ≡ count k = ap (count_below count) e in
        let some = before-clear (levels_of instance) count k (omega (arith, e)) in
        let low = clear-le (levels_of instance) count in
        let few = (levels-few instance).1 in
        let further = sum_under-le instance plan (clear_level (levels_of instance) count - 1) in
        tag_from_limited (levels_of instance) (cost instance plan) (omega arith) (omega arith) low (omega (arith, violations-le instance plan k, v.few_records)) (small_sum _ _ _ (omega arith) v.few_records further)

-- what a tag with a limit asks
within-limited : (instance : Instance) (t : Triple) (plan : List ℕ) → 0 < t.v → (violations instance plan t.k ≡ 0) × IsPairBelow (counts_below (violations instance plan) t.k) (limit_of t) → IsWithin instance t plan
within-limited instance t plan some h =
    let level = mode-limited t some in
    record {
      clear = ap (violations instance plan) level ∙ h.0;
      limited = λ _. subst (λ n. IsPairBelow (counts_below (violations instance plan) n) (limit_of t)) (sym level) h.1;
    }

within-plain : (instance : Instance) (t : Triple) (plan : List ℕ) → t.v ≡ 0 → violations instance plan (t.k - 1) ≡ 0 → IsWithin instance t plan
within-plain instance t plan none h = record {
  clear = ap (violations instance plan) (mode-plain t none) ∙ h;
  limited = λ some. absurd (omega (arith, ltb-true 0 t.v some));
}

cost-within-shape : (instance : Instance) (t : Triple) (plan : List ℕ) → IsInstance instance → TagShape (levels_of instance) t → IsBelow (cost instance plan) t → IsWithin instance t plan
cost-within-shape instance t plan v (limited some low high sv ss) h =
    within-limited instance t plan some (below-limit-to (levels_of instance) (violations instance plan) (violations-falling instance plan v) t low some h)
cost-within-shape instance t plan v (plain none nothing high) h =
    within-plain instance t plan none (below-level-to (levels_of instance) (violations instance plan) (violations-falling instance plan v) t none nothing h)

within-cost-shape : (instance : Instance) (t : Triple) (plan : List ℕ) → TagShape (levels_of instance) t → IsBelow least_tag t → IsWithin instance t plan → IsBelow (cost instance plan) t
within-cost-shape instance t plan (limited some low high sv ss) above w =
    let level = mode-limited t some in
    let clear : violations instance plan t.k ≡ 0 = ap (violations instance plan) (sym level) ∙ w.clear in
    let pair = subst (λ n. IsPairBelow (counts_below (violations instance plan) n) (limit_of t)) level (w.limited (lt-ltb 0 t.v some)) in
    below-limit-from (levels_of instance) (violations instance plan) t low clear pair
within-cost-shape instance t plan (plain none nothing high) above w =
    let level = mode-plain t none in
    let clear : violations instance plan (t.k - 1) ≡ 0 = ap (violations instance plan) (sym level) ∙ w.clear in
    below-level-from (levels_of instance) (violations instance plan) t (low above) clear
  where
    low : IsBelow least_tag t → 0 < t.k
    low (inl h) = h
    low (inr (same, inl h)) = absurd (omega arith)
    low (inr (same, inr h)) = absurd (omega (arith, h.1))

pub cost-within : (instance : Instance) (t : Triple) (plan : List ℕ) → IsInstance instance → IsTagOf instance t → IsBelow (cost instance plan) t → IsWithin instance t plan
cost-within instance t plan v tag h = cost-within-shape instance t plan v (shape_of instance t tag) h

pub within-cost : (instance : Instance) (t : Triple) (plan : List ℕ) → IsTagOf instance t → IsBelow least_tag t → IsWithin instance t plan → IsBelow (cost instance plan) t
within-cost instance t plan tag above w = within-cost-shape instance t plan (shape_of instance t tag) above w
