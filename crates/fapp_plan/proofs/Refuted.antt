-- The greatest and the least of what prefixes are refuted at.
use Rattle.std.proofs.Common.{◌≡◌, ℕ, zero, suc, ◌+◌, ◌<◌, ◌≤◌, max, min, List, [], ◌∷◌, ◌++◌, length, take, get_or, map, zero-add, refl, sym, ap, ◌∙◌, ⊎_elim, arith}
use Rattle.std.specs.List.{range_with_len}
use Rattle.std.proofs.lemmas.Bool.{cases_lt}
use Rattle.std.proofs.lemmas.List.{map-append, take_more}
use Rattle.std.proofs.lemmas.List.FromFn.{length-map-range_with_len, map-range_with_len_more}
use Rattle.std.proofs.lemmas.List.Sums.{fold_push}
use Rattle.fapp_plan.specs.Outcomes.{Placed, greatest_of, least_of, refuted_code}

-- one number more
pub greatest-more : (outcomes : List Placed) (k n : ℕ) (o : Placed) → k < length outcomes → o ≡ get_or outcomes k o → n ≡ refuted_code o →
    greatest_of (map refuted_code (take (k + 1) outcomes)) ≡ max (greatest_of (map refuted_code (take k outcomes))) n
greatest-more outcomes k n o l at is =
    ap (λ xs. greatest_of (map refuted_code xs)) (take_more outcomes k o l)
    ∙ (ap greatest_of (map-append refuted_code (take k outcomes) (get_or outcomes k o ∷ []))
    ∙ (fold_push max 0 (map refuted_code (take k outcomes)) (refuted_code (get_or outcomes k o))
    ∙ ap (λ m. max (greatest_of (map refuted_code (take k outcomes))) m) (ap refuted_code (sym at) ∙ sym is)))

least-push : (xs : List ℕ) (y : ℕ) → 0 < length xs → least_of (xs ++ y ∷ []) ≡ min (least_of xs) y
least-push [] y l = absurd (omega arith)
least-push (x ∷ xs) y l = fold_push min x xs y

pub least-more : (s : ℕ → ℕ) (n : ℕ) → 0 < n → least_of (map s (range_with_len 0 (n + 1))) ≡ min (least_of (map s (range_with_len 0 n))) (s n)
least-more s n some =
    ap least_of (map-range_with_len_more s 0 n n (zero-add n))
    ∙ least-push (map s (range_with_len 0 n)) (s n) (omega (arith, length-map-range_with_len s 0 n))

pub least-one : (s : ℕ → ℕ) → least_of (map s (range_with_len 0 1)) ≡ s 0
least-one s = refl

-- the least of a number for each place is that of some place, and at most that of each
pub least-reached : (s : ℕ → ℕ) (n : ℕ) → 0 < n → (k : ℕ) × (k < n) × (least_of (map s (range_with_len 0 n)) ≡ s k)
least-reached s zero some = absurd (omega arith)
least-reached s (suc zero) some = (0, omega arith, least-one s)
least-reached s (suc (suc n)) some =
    let before = least-reached s (suc n) (omega arith) in
    let more : least_of (map s (range_with_len 0 (suc (suc n)))) ≡ min (least_of (map s (range_with_len 0 (suc n)))) (s (suc n)) =
    ap (λ m. least_of (map s (range_with_len 0 m))) (one_more n) ∙ least-more s (suc n) (omega arith) in
    ⊎_elim
    (λ (low : least_of (map s (range_with_len 0 (suc n))) < s (suc n)).
    let l = before.1 in (before.0, omega arith, more ∙ (min_left (least_of (map s (range_with_len 0 (suc n)))) (s (suc n)) low ∙ before.2)))
    (λ high. (suc n, omega arith, more ∙ min_right (least_of (map s (range_with_len 0 (suc n)))) (s (suc n)) high))
    (cases_lt (least_of (map s (range_with_len 0 (suc n)))) (s (suc n)))
  where
    one_more : (n : ℕ) → suc (suc n) ≡ suc n + 1
    one_more n = omega arith

    min_left : (a b : ℕ) → a < b → min a b ≡ a
    min_left a b l = omega arith

    min_right : (a b : ℕ) → b ≤ a → min a b ≡ b
    min_right a b l = omega arith

pub least-low : (s : ℕ → ℕ) (n k : ℕ) → k < n → least_of (map s (range_with_len 0 n)) ≤ s k
least-low s zero k l = absurd (omega arith)
least-low s (suc zero) k l =
    let first : k ≡ 0 = omega arith in
    omega (arith, least-one s, ap s first)
least-low s (suc (suc n)) k l =
    let more : least_of (map s (range_with_len 0 (suc (suc n)))) ≡ min (least_of (map s (range_with_len 0 (suc n)))) (s (suc n)) =
    ap (λ m. least_of (map s (range_with_len 0 m))) (one_more n) ∙ least-more s (suc n) (omega arith) in
    ⊎_elim
    (λ (before : k < suc n). let low = least-low s (suc n) k before in omega arith)
    (λ last. let same : k ≡ suc n = omega arith in omega (arith, ap s same))
    (cases_lt k (suc n))
  where
    one_more : (n : ℕ) → suc (suc n) ≡ suc n + 1
    one_more n = omega arith
