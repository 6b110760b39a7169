-- One more number of a range.
use Rattle.std.proofs.Common.{◌≡◌, ℕ, ◌+◌, Bool, true, false, ◌&&◌, ◌||◌, cond, List, [], ◌∷◌, refl, ap, ◌∙◌, arith, sum_by, count_by, fold, zero-add, ◌<◌, length, take, get_or}
use Rattle.std.specs.List.{list_any, list_all, range_with_len}
use Rattle.std.proofs.lemmas.List.Sums.{sum_by_push, sum_by_more, fold_push}
use Rattle.std.proofs.lemmas.List.Folds.{list_any-append, list_any_more, list_all-append, list_all_at}
use Rattle.std.proofs.lemmas.List.FromFn.{length-range_with_len, get_or-range_with_len}
use Rattle.fapp_model.proofs.Anys.{any-member}
use Rattle.fapp_model.proofs.Members.{in-range}
use Rattle.std.proofs.lemmas.Bool.{or_from, and_from}
use Rattle.fapp_model.proofs.CostParts.{range_more}

pub sum_range : (f : ℕ → ℕ) (n : ℕ) → sum_by f (range_with_len 0 (n + 1)) ≡ sum_by f (range_with_len 0 n) + f n
sum_range f n = ap (sum_by f) (range_more 0 n) ∙ (sum_by_push f (range_with_len 0 n) (0 + n) ∙ ap (λ k. sum_by f (range_with_len 0 n) + f k) (zero-add n))

pub count_range : (p : ℕ → Bool) (n : ℕ) → count_by p (range_with_len 0 (n + 1)) ≡ count_by p (range_with_len 0 n) + cond (p n) 1 0
count_range p n = sum_range (λ k. cond (p k) 1 0) n

pub fold_range : {B : Type 0} (f : B → ℕ → B) (b : B) (n : ℕ) → fold f b (range_with_len 0 (n + 1)) ≡ f (fold f b (range_with_len 0 n)) n
fold_range f b n = ap (fold f b) (range_more 0 n) ∙ (fold_push f b (range_with_len 0 n) (0 + n) ∙ ap (f (fold f b (range_with_len 0 n))) (zero-add n))

pub sum_more : {X : Type 0} (f : X → ℕ) (xs : List X) (i : ℕ) (d : X) (s w : ℕ) → i < length xs → s ≡ sum_by f (take i xs) → w ≡ f (get_or xs i d) → s + w ≡ sum_by f (take (i + 1) xs)
sum_more f xs i d s w small e h = omega (arith, sum_by_more f xs i d small)

pub any_range : (p : ℕ → Bool) (n : ℕ) → list_any p (range_with_len 0 (n + 1)) ≡ (list_any p (range_with_len 0 n) || (p n || false))
any_range p n = ap (list_any p) (range_more 0 n) ∙ (list_any-append p (range_with_len 0 n) ((0 + n) ∷ []) ∙ ap (λ k. list_any p (range_with_len 0 n) || (p k || false)) (zero-add n))

-- none before, and not this one
pub none_range : (p : ℕ → Bool) (n : ℕ) → list_any p (range_with_len 0 n) ≡ false → p n ≡ false → list_any p (range_with_len 0 (n + 1)) ≡ false
none_range p n h e = any_range p n ∙ or_from (list_any p (range_with_len 0 n)) (p n || false) h (or_from (p n) false e refl)

pub sum_range_step : (f : ℕ → ℕ) (n s w : ℕ) → s ≡ sum_by f (range_with_len 0 n) → w ≡ f n → s + w ≡ sum_by f (range_with_len 0 (n + 1))
sum_range_step f n s w e h = omega (arith, sum_range f n)

pub none_more : {X : Type 0} (p : X → Bool) (xs : List X) (i : ℕ) (d : X) → i < length xs → list_any p (take i xs) ≡ false → p (get_or xs i d) ≡ false → list_any p (take (i + 1) xs) ≡ false
none_more p xs i d small h e = list_any_more p xs i d small ∙ or_from (list_any p (take i xs)) (p (get_or xs i d)) h e

pub any_at_range : (p : ℕ → Bool) (n m : ℕ) → m < n → p m ≡ true → list_any p (range_with_len 0 n) ≡ true
any_at_range p n m small h = any-member p (range_with_len 0 n) m (in-range n m small) h

pub fails_at_range : (p : ℕ → Bool) (n m : ℕ) → m < n → p m ≡ false → list_all p (range_with_len 0 n) ≡ false
fails_at_range p n m small h =
    list_all_at p (range_with_len 0 n) m m (omega (arith, length-range_with_len 0 n))
    (ap p (get_or-range_with_len 0 n m m small ∙ zero-add m) ∙ h)

pub all_range_step : (p : ℕ → Bool) (n : ℕ) → list_all p (range_with_len 0 n) ≡ true → p n ≡ true → list_all p (range_with_len 0 (n + 1)) ≡ true
all_range_step p n h e =
    ap (list_all p) (range_more 0 n) ∙ (list_all-append p (range_with_len 0 n) ((0 + n) ∷ [])
    ∙ and_from (list_all p (range_with_len 0 n)) (p (0 + n) && true) h (and_from (p (0 + n)) true (ap p (zero-add n) ∙ e) refl))
