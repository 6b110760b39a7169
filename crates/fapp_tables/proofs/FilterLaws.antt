-- What a filter keeps where all that passes stands together.
use Rattle.std.proofs.Common.{◌≡◌, ℕ, ◌+◌, ◌-◌, ◌<◌, ◌≤◌, Bool, true, false, cond, List, [], ◌∷◌, ◌++◌, length, get_or, filter, take, drop, zero-add, refl, sym, ap, ◌∙◌, All, arith}
use Rattle.std.specs.List.{range_with_len, slice_range}
use Rattle.std.proofs.lemmas.List.{append-nil, take-append-drop, length-take, length-drop, get_or-take, get_or-drop}
use Rattle.std.proofs.lemmas.List.Elements.{All-head, All-tail, filter-append}
use Rattle.std.proofs.lemmas.List.Folds.{drop_split}
use Rattle.fapp_model.proofs.CostParts.{range_more}

module _ {X : Type 0} (test : X → Bool) where
  pub filter-none : (xs : List X) → All (λ x. test x ≡ false) xs → filter test xs ≡ []
  filter-none [] h = refl
  filter-none (x ∷ xs) h = rw (All-head (λ x. test x ≡ false) x xs h) (filter-none xs (All-tail (λ x. test x ≡ false) x xs h))

  filter-all : (xs : List X) → All (λ x. test x ≡ true) xs → filter test xs ≡ xs
  filter-all [] h = refl
  filter-all (x ∷ xs) h = rw (All-head (λ x. test x ≡ true) x xs h) (ap (λ (ys : List X). x ∷ ys) (filter-all xs (All-tail (λ x. test x ≡ true) x xs h)))

  -- what passes stands from one place to another
  pub filter_run : (xs : List X) (a b : ℕ) → a ≤ b → b ≤ length xs →
      ((k : ℕ) (d : X) → k < a → test (get_or xs k d) ≡ false) → ((k : ℕ) (d : X) → a ≤ k → k < b → test (get_or xs k d) ≡ true) →
      ((k : ℕ) (d : X) → b ≤ k → k < length xs → test (get_or xs k d) ≡ false) → filter test xs ≡ slice_range xs a b
  filter_run xs a b forward within before inside behind =
      ap (filter test) (sym (take-append-drop a xs) ∙ ap (λ (ys : List X). take a xs ++ ys) (drop_split xs a b forward))
      ∙ (filter-append test (take a xs) (slice_range xs a b ++ drop b xs)
      ∙ (ap (λ (ys : List X). ys ++ filter test (slice_range xs a b ++ drop b xs)) (filter-none (take a xs) first)
      ∙ (filter-append test (slice_range xs a b) (drop b xs)
      ∙ (ap (λ (ys : List X). filter test (slice_range xs a b) ++ ys) (filter-none (drop b xs) last)
      ∙ (append-nil (filter test (slice_range xs a b)) ∙ filter-all (slice_range xs a b) middle)))))
    where
      first : All (λ x. test x ≡ false) (take a xs)
      first k d l = let short : k < a = omega (arith, length-take a xs, l) in rw (get_or-take a xs k d short) (before k d short)

      middle : All (λ x. test x ≡ true) (slice_range xs a b)
      middle k d l =
          let short : k < b - a = omega (arith, length-take (b - a) (drop a xs), l) in
          rw (get_or-take (b - a) (drop a xs) k d short, get_or-drop a xs k d) (inside (a + k) d (omega arith) (omega arith))

      last : All (λ x. test x ≡ false) (drop b xs)
      last k d l = rw (get_or-drop b xs k d) (behind (b + k) d (omega arith) (omega (arith, length-drop b xs, l)))

-- one number more
pub filter-range_more : (test : ℕ → Bool) (n : ℕ) → filter test (range_with_len 0 (n + 1)) ≡ filter test (range_with_len 0 n) ++ cond (test n) (n ∷ []) []
filter-range_more test n =
    ap (filter test) (range_more 0 n) ∙ (filter-append test (range_with_len 0 n) ((0 + n) ∷ [])
    ∙ ap (λ k. filter test (range_with_len 0 n) ++ cond (test k) (k ∷ []) []) (zero-add n))
