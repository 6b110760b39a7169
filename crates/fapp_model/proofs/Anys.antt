-- Tests over lists and ranges, by their members.
use Rattle.std.proofs.Common.{◌≡◌, inl, inr, ℕ, zero, suc, ◌<◌, ◌≤◌, Bool, true, false, List, [], ◌∷◌, length, get_or, refl, sym, subst, arith, sum_by, All, Contains}
use Rattle.std.specs.List.{list_any}
use Rattle.std.proofs.lemmas.Bool.{cases_lt, false_from_ne_true, both_ways}
use Rattle.std.proofs.lemmas.List.Sums.{sum_by-cons}
use Rattle.std.proofs.lemmas.List.Folds.{Any-from_list_any, list_any-from_Any, list_any_none}
use Rattle.std.proofs.lemmas.List.Elements.{All-head, All-tail, Contains-get_or}
use Rattle.fapp_model.proofs.Sums.{sum_by-le-members}

-- some member passes the test
pub record Passing {X : Type 0} (p : X → Bool) (xs : List X) : Type 0 where
  pub item : X
  pub member : Contains xs item
  pub passes : p item ≡ true

pub passing : {X : Type 0} (p : X → Bool) (xs : List X) → list_any p xs ≡ true → Passing p xs
passing p xs h = let a = Any-from_list_any p xs h in record { item = a.1; member = (a.0, a.2, a.3); passes = a.4 }

pub any-member : {X : Type 0} (p : X → Bool) (xs : List X) (x : X) → Contains xs x → p x ≡ true → list_any p xs ≡ true
any-member p xs x c h = list_any-from_Any p xs (c.0, x, c.1, c.2, h)

pub none-member : {X : Type 0} (p : X → Bool) (xs : List X) → list_any p xs ≡ false → (x : X) → Contains xs x → p x ≡ false
none-member p xs h x c = false_from_ne_true (p x) (λ e. both_ways (list_any p xs) h (any-member p xs x c e))

pub no-member : {X : Type 0} (p : X → Bool) (xs : List X) → ((x : X) → Contains xs x → p x ≡ false) → list_any p xs ≡ false
no-member p xs h = list_any_none p xs (λ k d l. h (get_or xs k d) (Contains-get_or xs k d l))

-- a sum is smaller where no term is larger and one is smaller
sum_by-lt-at : {X : Type 0} (f g : X → ℕ) (xs : List X) (k : ℕ) (d : X) → All (λ x. f x ≤ g x) xs → k < length xs → f (get_or xs k d) < g (get_or xs k d) → sum_by f xs < sum_by g xs
sum_by-lt-at f g [] k d h l less = absurd (omega arith)
sum_by-lt-at f g (x ∷ xs) zero d h l less =
    let rest = sum_by-le-members f g xs (All-tail (λ x. f x ≤ g x) x xs h) in
    omega (arith, sum_by-cons f x xs, sum_by-cons g x xs)
sum_by-lt-at f g (x ∷ xs) (suc k) d h l less =
    let here : f x ≤ g x = All-head (λ x. f x ≤ g x) x xs h in
    let rest = sum_by-lt-at f g xs k d (All-tail (λ x. f x ≤ g x) x xs h) (omega arith) less in
    omega (arith, sum_by-cons f x xs, sum_by-cons g x xs)

pub sum_by-lt-member : {X : Type 0} (f g : X → ℕ) (xs : List X) (x : X) → All (λ x. f x ≤ g x) xs → Contains xs x → f x < g x → sum_by f xs < sum_by g xs
sum_by-lt-member f g xs x h (k, l, e) less = sum_by-lt-at f g xs k x h l (subst (λ y. f y < g y) (sym e) less)

-- some term of a sum is positive
pub record Positive {X : Type 0} (f : X → ℕ) (xs : List X) : Type 0 where
  pub item : X
  pub member : Contains xs item
  pub positive : 0 < f item

Contains-tail : {X : Type 0} (x y : X) (xs : List X) → Contains xs y → Contains (x ∷ xs) y
Contains-tail x y xs (k, l, e) = (suc k, omega arith, e)

pub positive-sum_by : {X : Type 0} (f : X → ℕ) (xs : List X) → 0 < sum_by f xs → Positive f xs
positive-sum_by f [] h = absurd (omega arith)
positive-sum_by f (x ∷ xs) h =
    elim (cases_lt 0 (f x)) [
      | inl some ↦ record { item = x; member = (0, omega arith, refl); positive = some }
      | inr none ↦
          let rest = positive-sum_by f xs (omega (arith, sum_by-cons f x xs)) in
          record { item = rest.item; member = Contains-tail x rest.item xs rest.member; positive = rest.positive }
    ]
