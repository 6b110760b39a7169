-- What is a member of a list that is made of others.
use Rattle.std.proofs.Common.{◌≡◌, ◌⊎◌, ℕ, zero, suc, ◌<◌, Bool, true, List, [], ◌∷◌, length, get_or, map, flat_map, filter, All, Contains, refl, sym, subst, inl, inr, ⊎_elim, arith}
use Rattle.std.specs.List.{list_any, range_with_len}
use Rattle.std.proofs.lemmas.List.Elements.{All-nil, All-cons, Contains-append_left, Contains-append_right, Contains-append_cases}
use Rattle.std.proofs.lemmas.List.FromFn.{length-range_with_len, get_or-range_with_len}
use Rattle.std.proofs.lemmas.Bool.{cases_Bool, or_cases, true≢false}

module _ {X : Type 0} where
  pub at_front : (x : X) (xs : List X) → Contains (x ∷ xs) x
  at_front x xs = (0, omega arith, refl)

  pub behind : (y : X) (xs : List X) (x : X) → Contains xs x → Contains (y ∷ xs) x
  behind y xs x h = (suc h.0, (let below = h.1 in omega arith), h.2)

  at_index : (y : X) (xs : List X) (x : X) (k : ℕ) → k < length (y ∷ xs) → get_or (y ∷ xs) k x ≡ x → (y ≡ x) ⊎ Contains xs x
  at_index y xs x zero l e = inl e
  at_index y xs x (suc k) l e = inr (k, omega arith, e)

  pub front_or_behind : (y : X) (xs : List X) (x : X) → Contains (y ∷ xs) x → (y ≡ x) ⊎ Contains xs x
  front_or_behind y xs x h = at_index y xs x h.0 h.1 h.2

  pub no_member : (x : X) → Contains [] x → ⊥
  no_member x h = let below = h.1 in absurd (omega arith)

  -- what holds of each member
  pub All-from_members : (P : X → Type 0) (xs : List X) → ((x : X) → Contains xs x → P x) → All P xs
  All-from_members P [] h = All-nil P
  All-from_members P (x ∷ xs) h = All-cons P x xs (h x (at_front x xs)) (All-from_members P xs (λ y m. h y (behind x xs y m)))

  -- the members of a filtered list
  pub in-filter : (p : X → Bool) (xs : List X) (x : X) → Contains xs x → p x ≡ true → Contains (filter p xs) x
  in-filter p [] x h e = absurd (no_member x h)
  in-filter p (y ∷ xs) x h e = ⊎_elim
      (λ here. rw (subst (λ z. p z ≡ true) (sym here) e) (subst (λ z. Contains (y ∷ filter p xs) z) here (at_front y (filter p xs))))
      (λ later. ⊎_elim
      (λ yes. rw yes (behind y (filter p xs) x (in-filter p xs x later e)))
      (λ no. rw no (in-filter p xs x later e))
      (cases_Bool (p y)))
      (front_or_behind y xs x h)

  pub from-filter : (p : X → Bool) (xs : List X) (x : X) → Contains (filter p xs) x → Contains xs x × (p x ≡ true)
  from-filter p [] x h = absurd (no_member x h)
  from-filter p (y ∷ xs) x h = ⊎_elim
      (λ yes. ⊎_elim
      (λ here. (subst (λ z. Contains (y ∷ xs) z) here (at_front y xs), subst (λ z. p z ≡ true) here yes))
      (λ later. let r = from-filter p xs x later in (behind y xs x r.0, r.1))
      (front_or_behind y (filter p xs) x (rw yes at h)))
      (λ no. let r = from-filter p xs x (rw no at h) in (behind y xs x r.0, r.1))
      (cases_Bool (p y))

  -- a member that passes a test
  pub any-some : (p : X → Bool) (xs : List X) → list_any p xs ≡ true → (x : X) × Contains xs x × (p x ≡ true)
  any-some p [] h = absurd (true≢false (sym h))
  any-some p (x ∷ xs) h = ⊎_elim
      (λ here. (x, at_front x xs, here))
      (λ later. let r = any-some p xs later in (r.0, behind x xs r.0 r.1, r.2))
      (or_cases (p x) (list_any p xs) h)

-- the members of what a function makes of each
module _ {X Y : Type 0} where
  pub in-map : (f : X → Y) (xs : List X) (x : X) → Contains xs x → Contains (map f xs) (f x)
  in-map f [] x h = absurd (no_member x h)
  in-map f (y ∷ xs) x h = ⊎_elim
      (λ here. subst (λ z. Contains (f y ∷ map f xs) (f z)) here (at_front (f y) (map f xs)))
      (λ later. behind (f y) (map f xs) (f x) (in-map f xs x later))
      (front_or_behind y xs x h)

  pub from-map : (f : X → Y) (xs : List X) (z : Y) → Contains (map f xs) z → (x : X) × Contains xs x × (f x ≡ z)
  from-map f [] z h = absurd (no_member z h)
  from-map f (y ∷ xs) z h = ⊎_elim
      (λ here. (y, at_front y xs, here))
      (λ later. let r = from-map f xs z later in (r.0, behind y xs r.0 r.1, r.2))
      (front_or_behind (f y) (map f xs) z h)

  pub in-flat_map : (f : X → List Y) (xs : List X) (x : X) (z : Y) → Contains xs x → Contains (f x) z → Contains (flat_map f xs) z
  in-flat_map f [] x z h m = absurd (no_member x h)
  in-flat_map f (y ∷ xs) x z h m = ⊎_elim
      (λ here. Contains-append_left (f y) (flat_map f xs) z (subst (λ w. Contains (f w) z) (sym here) m))
      (λ later. Contains-append_right (f y) (flat_map f xs) z (in-flat_map f xs x z later m))
      (front_or_behind y xs x h)

  pub from-flat_map : (f : X → List Y) (xs : List X) (z : Y) → Contains (flat_map f xs) z → (x : X) × Contains xs x × Contains (f x) z
  from-flat_map f [] z h = absurd (no_member z h)
  from-flat_map f (y ∷ xs) z h = ⊎_elim
      (λ here. (y, at_front y xs, here))
      (λ later. let r = from-flat_map f xs z later in (r.0, behind y xs r.0 r.1, r.2))
      (Contains-append_cases (f y) (flat_map f xs) z h)

-- the members of a range
pub in-range : (n x : ℕ) → x < n → Contains (range_with_len 0 n) x
in-range n x l = (x, omega (arith, length-range_with_len 0 n), omega (arith, get_or-range_with_len 0 n x x l))

pub from-range : (n x : ℕ) → Contains (range_with_len 0 n) x → x < n
from-range n x h =
    let small : h.0 < n = omega (arith, length-range_with_len 0 n, h.1) in
    omega (arith, get_or-range_with_len 0 n h.0 x small, h.2)

pub All-range : (P : ℕ → Type 0) (n : ℕ) → ((m : ℕ) → m < n → P m) → All P (range_with_len 0 n)
All-range P n h = All-from_members P (range_with_len 0 n) (λ m c. h m (from-range n m c))
