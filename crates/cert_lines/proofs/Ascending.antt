-- Elements whose keys ascend, each from a least one on.
use Rattle.std.proofs.Common.{ℕ, ◌+◌, ◌<◌, ◌≤◌, List, [], ◌∷◌, length, map, All, AllPairs, arith}
use Rattle.std.proofs.lemmas.List.Elements.{All-cons, All-head, All-tail}
use Rattle.fapp_model.proofs.InOrder.{pairs-nil, pairs-cons, pairs-head, pairs-tail}

abbrev pub AscendsFrom : ℕ → List ℕ → Type 0
AscendsFrom low [] = Unit {0}
AscendsFrom low (x ∷ xs) = (low ≤ x) × AscendsFrom (x + 1) xs

module _ {A : Type 0} (key : A → ℕ) where
  abbrev pub Below : A → A → Type 0
  Below x y = key x < key y

  pub high_from : (low : ℕ) (xs : List A) → AscendsFrom low (map key xs) → All (λ x. low ≤ key x) xs
  high_from low [] h = λ k d l. absurd (omega arith)
  high_from low (x ∷ xs) h = All-cons (λ y. low ≤ key y) x xs h.0 (λ k d l. omega (arith, h.0, high_from (key x + 1) xs h.1 k d l))

  pub pairs_from : (low : ℕ) (xs : List A) → AscendsFrom low (map key xs) → AllPairs Below xs
  pairs_from low [] h = pairs-nil Below
  pairs_from low (x ∷ xs) h = pairs-cons Below x xs (λ k d l. omega (arith, high_from (key x + 1) xs h.1 k d l)) (pairs_from (key x + 1) xs h.1)

  pub ascends : (low : ℕ) (xs : List A) → All (λ x. low ≤ key x) xs → AllPairs Below xs → AscendsFrom low (map key xs)
  ascends low [] high up = tt
  ascends low (x ∷ xs) high up =
      (All-head (λ y. low ≤ key y) x xs high, ascends (key x + 1) xs (λ k d l. omega (arith, pairs-head Below x xs up k d l)) (pairs-tail Below x xs up))

  -- so there are few of them below a number
  pub few_below : (n low : ℕ) (xs : List A) → low ≤ n → AscendsFrom low (map key xs) → All (λ x. key x < n) xs → low + length xs ≤ n
  few_below n low [] le h below = omega arith
  few_below n low (x ∷ xs) le h below =
      let first : key x < n = All-head (λ y. key y < n) x xs below in
      omega (arith, h.0, first, few_below n (key x + 1) xs (omega arith) h.1 (All-tail (λ y. key y < n) x xs below))

  pub few_items : (n : ℕ) (xs : List A) → All (λ x. key x < n) xs → AllPairs Below xs → length xs ≤ n
  few_items n xs below up = omega (arith, few_below n 0 xs (omega arith) (ascends 0 xs (λ k d l. omega arith) up) below)
