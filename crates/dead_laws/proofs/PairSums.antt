-- Sums of pairs in lexicographic order.
use Rattle.std.proofs.Common.{◌≡◌, ◌⊎◌, ℕ, ◌+◌, ◌<◌, ◌≤◌, List, [], ◌∷◌, refl, sym, inl, inr, arith, sum_by, All}
use Rattle.std.proofs.lemmas.Bool.{cases_lt, cases_order}
use Rattle.std.proofs.lemmas.List.Sums.{sum_by-cons}
use Rattle.std.proofs.lemmas.List.Elements.{All-head, All-tail}
use Rattle.fapp_model.specs.search.Pairs.{Pair, IsPairAtMost, IsPairBelow}

-- the order on the pairs' numbers
abbrev pub AtMost : ℕ → ℕ → ℕ → ℕ → Type 0
AtMost v s w r = (v < w) ⊎ ((v ≡ w) × (s ≤ r))

pub add-at_most : (a b c d v s w r : ℕ) → AtMost a b c d → AtMost v s w r → AtMost (a + v) (b + s) (c + w) (d + r)
add-at_most a b c d v s w r (inl h) (inl g) = inl (omega arith)
add-at_most a b c d v s w r (inl h) (inr g) = inl (omega (arith, g.0))
add-at_most a b c d v s w r (inr h) (inl g) = inl (omega (arith, h.0))
add-at_most a b c d v s w r (inr h) (inr g) = inr (omega (arith, h.0, g.0), omega (arith, h.1, g.1))

at_most-along : (v s w r v' s' w' r' : ℕ) → v' ≡ v → s' ≡ s → w' ≡ w → r' ≡ r → AtMost v s w r → AtMost v' s' w' r'
at_most-along v s w r v' s' w' r' a b c d (inl h) = inl (omega arith)
at_most-along v s w r v' s' w' r' a b c d (inr h) = inr (omega (arith, h.0), omega (arith, h.1))

-- a sum of pairs is at most another where each is
pub sum-at_most : {X : Type 0} (v s w r : X → ℕ) (xs : List X) → All (λ x. AtMost (v x) (s x) (w x) (r x)) xs → AtMost (sum_by v xs) (sum_by s xs) (sum_by w xs) (sum_by r xs)
sum-at_most v s w r [] h = inr (refl, omega arith)
sum-at_most v s w r (x ∷ xs) h =
    at_most-along _ _ _ _ _ _ _ _ (sum_by-cons v x xs) (sum_by-cons s x xs) (sum_by-cons w x xs) (sum_by-cons r x xs)
    (add-at_most (v x) (s x) (w x) (r x) _ _ _ _ (All-head (λ x. AtMost (v x) (s x) (w x) (r x)) x xs h) (sum-at_most v s w r xs (All-tail (λ x. AtMost (v x) (s x) (w x) (r x)) x xs h)))

-- part by part
pub parts-at_most : (v s w r : ℕ) → v ≤ w → s ≤ r → AtMost v s w r
parts-at_most v s w r h g = elim (cases_lt v w) [ inl less ↦ inl less | inr more ↦ inr (omega arith, g) ]

pub at_most-trans : (a b c d e f : ℕ) → AtMost a b c d → AtMost c d e f → AtMost a b e f
at_most-trans a b c d e f (inl h) (inl g) = inl (omega arith)
at_most-trans a b c d e f (inl h) (inr g) = inl (omega (arith, g.0))
at_most-trans a b c d e f (inr h) (inl g) = inl (omega (arith, h.0))
at_most-trans a b c d e f (inr h) (inr g) = inr (omega (arith, h.0, g.0), omega (arith, h.1, g.1))

-- one pair is below another or no less
pub below_or_at_most : (p q : Pair) → IsPairBelow p q ⊎ IsPairAtMost q p
below_or_at_most p q =
    elim (cases_order p.v q.v) [
      | inl same ↦ elim (cases_lt p.s q.s) [ inl less ↦ inl (inr (same, less)) | inr more ↦ inr (inr (sym same, more)) ]
      | inr (inl less) ↦ inl (inl less)
      | inr (inr more) ↦ inr (inl more)
    ]

pub not_both : (p q : Pair) → IsPairBelow p q → IsPairAtMost q p → ⊥
not_both p q (inl h) (inl g) = omega arith
not_both p q (inl h) (inr g) = omega (arith, g.0)
not_both p q (inr h) (inl g) = omega (arith, h.0)
not_both p q (inr h) (inr g) = omega (arith, h.1, g.1)

-- what is added to an inner part and to an open one
pub grown-at_most : (iv is mv ms lv ls av as' ov os pv ps tv ts : ℕ) → iv + av ≤ mv → is + as' ≤ ms → AtMost lv ls av as' → AtMost ov os pv ps → tv ≡ lv + ov → ts ≡ ls + os → AtMost (iv + tv) (is + ts) (mv + pv) (ms + ps)
grown-at_most iv is mv ms lv ls av as' ov os pv ps tv ts inner beyond fewest spare e f =
    at_most-along _ _ _ _ _ _ _ _ (omega arith) (omega arith) refl refl
    (at_most-trans (iv + (lv + ov)) (is + (ls + os)) (iv + (av + pv)) (is + (as' + ps)) (mv + pv) (ms + ps)
    (add-at_most iv is iv is (lv + ov) (ls + os) (av + pv) (as' + ps) (inr (refl, omega arith)) (add-at_most lv ls av as' ov os pv ps fewest spare))
    (parts-at_most (iv + (av + pv)) (is + (as' + ps)) (mv + pv) (ms + ps) (omega arith) (omega arith)))
