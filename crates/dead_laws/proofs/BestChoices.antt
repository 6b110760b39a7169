-- The least pair among the numbers that pass a test.
use Rattle.std.proofs.Common.{◌≡◌, ◌⊎◌, ℕ, zero, suc, Bool, true, false, List, [], ◌∷◌, refl, ap, subst, inl, inr, arith, Contains}
use Rattle.std.proofs.lemmas.Bool.{both_ways}
use Rattle.fapp_model.specs.search.Pairs.{Pair, IsPairAtMost, IsPairBelow}
use Rattle.dead_laws.proofs.PairSums.{below_or_at_most}
use Rattle.dead_laws.proofs.DeadLower.{IsPairAtMost-trans}

pub record NonePass (test : ℕ → Bool) (xs : List ℕ) : Type 0 where
  pub fails : (y : ℕ) → Contains xs y → test y ≡ false

pub record BestOf (test : ℕ → Bool) (pair : ℕ → Pair) (xs : List ℕ) : Type 0 where
  pub item : ℕ
  pub member : Contains xs item
  pub passes : test item ≡ true
  pub least : (y : ℕ) → Contains xs y → test y ≡ true → IsPairAtMost (pair item) (pair y)

cons-cases : (x y : ℕ) (xs : List ℕ) → Contains (x ∷ xs) y → (x ≡ y) ⊎ Contains xs y
cons-cases x y xs (zero, l, e) = inl e
cons-cases x y xs (suc k, l, e) = inr (k, omega arith, e)

in-tail : (x y : ℕ) (xs : List ℕ) → Contains xs y → Contains (x ∷ xs) y
in-tail x y xs (k, l, e) = (suc k, omega arith, e)

weaken : (p q : Pair) → IsPairBelow p q → IsPairAtMost p q
weaken p q (inl h) = inl h
weaken p q (inr h) = inr (h.0, omega (arith, h.1))

same : (p q : Pair) → p ≡ q → IsPairAtMost p q
same p q e = inr (ap (λ (r : Pair). r.v) e, omega (arith, ap (λ (r : Pair). r.s) e))

module _ (test : ℕ → Bool) (pair : ℕ → Pair) where
  skip : (x : ℕ) (xs : List ℕ) → test x ≡ false → NonePass test xs ⊎ BestOf test pair xs → NonePass test (x ∷ xs) ⊎ BestOf test pair (x ∷ xs)
  skip x xs off (inl none) = inl (record { fails = λ y c. elim (cons-cases x y xs c) [ inl e ↦ subst (λ z. test z ≡ false) e off | inr r ↦ none.fails y r ] })
  skip x xs off (inr best) = inr (record {
    item = best.item;
    member = in-tail x best.item xs best.member;
    passes = best.passes;
    least = λ y c pass. elim (cons-cases x y xs c) [ inl e ↦ absurd (both_ways (test y) (subst (λ z. test z ≡ false) e off) pass) | inr r ↦ best.least y r pass ];
  })

  head-best : (x : ℕ) (xs : List ℕ) → test x ≡ true → ((y : ℕ) → Contains xs y → test y ≡ true → IsPairAtMost (pair x) (pair y)) → BestOf test pair (x ∷ xs)
  head-best x xs on least = record {
    item = x;
    member = (0, omega arith, refl);
    passes = on;
    least = λ y c pass. elim (cons-cases x y xs c) [ inl e ↦ same (pair x) (pair y) (ap pair e) | inr r ↦ least y r pass ];
  }

  take : (x : ℕ) (xs : List ℕ) → test x ≡ true → NonePass test xs ⊎ BestOf test pair xs → NonePass test (x ∷ xs) ⊎ BestOf test pair (x ∷ xs)
  take x xs on (inl none) = inr (head-best x xs on (λ y c pass. absurd (both_ways (test y) (none.fails y c) pass)))
  take x xs on (inr best) =
      elim (below_or_at_most (pair best.item) (pair x)) [
        | inl less ↦ inr (record {
          item = best.item;
          member = in-tail x best.item xs best.member;
          passes = best.passes;
          least = λ y c pass. elim (cons-cases x y xs c) [ inl e ↦ subst (λ z. IsPairAtMost (pair best.item) (pair z)) e (weaken (pair best.item) (pair x) less) | inr r ↦ best.least y r pass ];
        })
        | inr most ↦ inr (head-best x xs on (λ y c pass. IsPairAtMost-trans (pair x) (pair best.item) (pair y) most (best.least y c pass)))
      ]

  step : (x : ℕ) (xs : List ℕ) (b : Bool) → test x ≡ b → NonePass test xs ⊎ BestOf test pair xs → NonePass test (x ∷ xs) ⊎ BestOf test pair (x ∷ xs)
  step x xs true e rest = take x xs e rest
  step x xs false e rest = skip x xs e rest

pub best : (test : ℕ → Bool) (pair : ℕ → Pair) (xs : List ℕ) → NonePass test xs ⊎ BestOf test pair xs
best test pair [] = inl (record { fails = λ y c. absurd (omega (arith, c.1)) })
best test pair (x ∷ xs) = step test pair x xs (test x) refl (best test pair xs)

-- the least pair, or nothing
abbrev pub best_pair : (test : ℕ → Bool) (pair : ℕ → Pair) (xs : List ℕ) → NonePass test xs ⊎ BestOf test pair xs → Pair
best_pair test pair xs (inl none) = record { v = 0; s = 0 }
best_pair test pair xs (inr found) = pair found.item
