-- Tests and sums over some elements of a list.
use Rattle.std.proofs.Common.{◌≡◌, ℕ, ◌<◌, Bool, true, false, ◌&&◌, ◌||◌, cond, ltb, List, [], ◌∷◌, length, take, get_or, map, filter, sum_by, refl, ap, sym, ◌∙◌, arith}
use Rattle.std.specs.List.{list_any, range_with_len}
use Rattle.std.proofs.lemmas.Bool.{and_parts, and_from, lt-ltb, ltb-true, both_ways, false_from_ne_true}
use Rattle.std.proofs.lemmas.List.{get_or-take, length-take, get_or_default}
use Rattle.std.proofs.lemmas.List.Sums.{sum_by-cons}
use Rattle.std.proofs.lemmas.List.FromFn.{fill_by_all}
use Rattle.fapp_model.proofs.Anys.{passing, any-member}
use Rattle.fapp_model.proofs.Members.{in-range, from-range}

pub any-filter : {X : Type 0} (p q : X → Bool) (xs : List X) → list_any p (filter q xs) ≡ list_any (λ x. q x && p x) xs
any-filter p q [] = refl
any-filter p q (x ∷ xs) = by_test (q x) (any-filter p q xs)
  where
    by_test : (b : Bool) → list_any p (filter q xs) ≡ list_any (λ y. q y && p y) xs → list_any p (cond b (x ∷ filter q xs) (filter q xs)) ≡ ((b && p x) || list_any (λ y. q y && p y) xs)
    by_test true e = ap (λ b. p x || b) e
    by_test false e = e

pub any-same : {X : Type 0} (p q : X → Bool) (xs : List X) → ((x : X) → p x ≡ q x) → list_any p xs ≡ list_any q xs
any-same p q [] h = refl
any-same p q (x ∷ xs) h = ap (λ b. b || list_any p xs) (h x) ∙ ap (λ b. q x || b) (any-same p q xs h)

skip_test : (q p : Bool) → (q ≡ false → p ≡ false) → (q && p) ≡ p
skip_test true p h = refl
skip_test false p h = sym (h refl)

-- what fails the filter fails the test too
pub any-skip : {X : Type 0} (p q : X → Bool) (xs : List X) → ((x : X) → q x ≡ false → p x ≡ false) → list_any p (filter q xs) ≡ list_any p xs
any-skip p q xs h = any-filter p q xs ∙ any-same (λ x. q x && p x) p xs (λ x. skip_test (q x) (p x) (h x))

-- what fails the filter adds nothing
pub sum-skip : {X : Type 0} (f : X → ℕ) (q : X → Bool) (xs : List X) → ((x : X) → q x ≡ false → f x ≡ 0) → sum_by f (filter q xs) ≡ sum_by f xs
sum-skip f q [] h = refl
sum-skip f q (x ∷ xs) h = by_test (q x) refl (sum-skip f q xs h)
  where
    by_test : (b : Bool) → q x ≡ b → sum_by f (filter q xs) ≡ sum_by f xs → sum_by f (cond b (x ∷ filter q xs) (filter q xs)) ≡ sum_by f (x ∷ xs)
    by_test true e rest = omega (arith, sum_by-cons f x (filter q xs), sum_by-cons f x xs)
    by_test false e rest = let none = h x e in omega (arith, sum_by-cons f x xs)

pub any-map : {X Y : Type 0} (p : Y → Bool) (f : X → Y) (xs : List X) → list_any p (map f xs) ≡ list_any (λ x. p (f x)) xs
any-map p f [] = refl
any-map p f (x ∷ xs) = ap (λ b. p (f x) || b) (any-map p f xs)

pub sum-map : {X Y : Type 0} (g : Y → ℕ) (f : X → Y) (xs : List X) → sum_by g (map f xs) ≡ sum_by (λ x. g (f x)) xs
sum-map g f [] = refl
sum-map g f (x ∷ xs) = let rest = sum-map g f xs in omega (arith, sum_by-cons g (f x) (map f xs), sum_by-cons (λ y. g (f y)) x xs)

-- a list by its positions
pub by-places : {X : Type 0} (xs : List X) (d : X) → xs ≡ map (λ k. get_or xs k d) (range_with_len 0 (length xs))
by-places xs d = fill_by_all (λ k. get_or xs k d) xs (length xs) d refl (λ k small. refl)

pub any-places : {X : Type 0} (p : X → Bool) (xs : List X) (d : X) → list_any (λ k. p (get_or xs k d)) (range_with_len 0 (length xs)) ≡ list_any p xs
any-places p xs d = sym (any-map p (λ (k : ℕ). get_or xs k d) (range_with_len 0 (length xs))) ∙ ap (list_any p) (sym (by-places xs d))

pub sum-places : {X : Type 0} (f : X → ℕ) (xs : List X) (d : X) → sum_by (λ k. f (get_or xs k d)) (range_with_len 0 (length xs)) ≡ sum_by f xs
sum-places f xs d = sym (sum-map f (λ (k : ℕ). get_or xs k d) (range_with_len 0 (length xs))) ∙ ap (sum_by f) (sym (by-places xs d))

pub same-tests : (a b : Bool) → (a ≡ true → b ≡ true) → (b ≡ true → a ≡ true) → a ≡ b
same-tests a true h g = g refl
same-tests a false h g = false_from_ne_true a (λ e. both_ways false refl (h e))

-- the elements before n, by their positions
pub any-before : {X : Type 0} (h : X → Bool) (xs : List X) (n : ℕ) (d : X) → list_any (λ k. ltb k n && h (get_or xs k d)) (range_with_len 0 (length xs)) ≡ list_any h (take n xs)
any-before h xs n d = same-tests _ _ to from
  where
    to : list_any (λ k. ltb k n && h (get_or xs k d)) (range_with_len 0 (length xs)) ≡ true → list_any h (take n xs) ≡ true
    to e =
        let found = passing (λ k. ltb k n && h (get_or xs k d)) (range_with_len 0 (length xs)) e in
        let parts = and_parts (ltb found.item n) (h (get_or xs found.item d)) found.passes in
        let below = ltb-true found.item n parts.0 in
        let small = from-range (length xs) found.item found.member in
        let within : found.item < length (take n xs) = simp length-take (omega arith) in
        any-member h (take n xs) (get_or xs found.item d)
        (found.item, within, get_or-take n xs found.item (get_or xs found.item d) below ∙ get_or_default xs found.item (get_or xs found.item d) d small) parts.1

    from : list_any h (take n xs) ≡ true → list_any (λ k. ltb k n && h (get_or xs k d)) (range_with_len 0 (length xs)) ≡ true
    from e =
        let found = passing h (take n xs) e in
        let k = found.member.0 in
        let inside : k < length (take n xs) = found.member.1 in
        let both : (k < n) × (k < length xs) = bounds k inside in
        let same : get_or xs k d ≡ found.item = get_or_default xs k d found.item both.1 ∙ (sym (get_or-take n xs k found.item both.0) ∙ found.member.2) in
        any-member (λ k. ltb k n && h (get_or xs k d)) (range_with_len 0 (length xs)) k (in-range (length xs) k both.1)
        (and_from (ltb k n) (h (get_or xs k d)) (lt-ltb k n both.0) (ap h same ∙ found.passes))
      where
        bounds : (k : ℕ) → k < length (take n xs) → (k < n) × (k < length xs)
        bounds k l = let e = simp length-take at l in (omega arith, omega arith)
