-- Lists by place, and lists side by side.
use Rattle.std.proofs.Common.{◌≡◌, ◌⊎◌, ℕ, zero, suc, ◌<◌, ◌≤◌, List, [], ◌∷◌, ◌++◌, length, take, Contains, Some, refl, sym, ap, subst, inl, inr, ⊎_elim, arith}
use Rattle.std.specs.List.{AllZip, slice_get}
use Rattle.fapp_model.proofs.Members.{at_front, behind, front_or_behind, no_member}

module _ {X : Type 0} where
  pub get-front : (xs ys : List X) (n : ℕ) (x : X) → n < length xs → slice_get (xs ++ ys) n ≡ Some x → slice_get xs n ≡ Some x
  get-front [] ys n x l e = absurd (omega arith)
  get-front (y ∷ xs) ys zero x l e = e
  get-front (y ∷ xs) ys (suc n) x l e = get-front xs ys n x (omega arith) e

  pub get-append : (xs ys : List X) (n : ℕ) (x : X) → slice_get xs n ≡ Some x → slice_get (xs ++ ys) n ≡ Some x
  get-append [] ys n x e = cc
  get-append (y ∷ xs) ys zero x e = e
  get-append (y ∷ xs) ys (suc n) x e = get-append xs ys n x e

  pub get-take : (xs : List X) (n k : ℕ) (x : X) → slice_get (take n xs) k ≡ Some x → (k < n) × (slice_get xs k ≡ Some x)
  get-take xs zero k x e = cc
  get-take [] (suc n) k x e = cc
  get-take (y ∷ xs) (suc n) zero x e = (omega arith, e)
  get-take (y ∷ xs) (suc n) (suc k) x e = let r = get-take xs n k x e in (omega (arith, r.0), r.1)

  pub take-get : (xs : List X) (n k : ℕ) (x : X) → k < n → slice_get xs k ≡ Some x → slice_get (take n xs) k ≡ Some x
  take-get xs zero k x l e = absurd (omega arith)
  take-get [] (suc n) k x l e = cc
  take-get (y ∷ xs) (suc n) zero x l e = e
  take-get (y ∷ xs) (suc n) (suc k) x l e = take-get xs n k x (omega arith) e

  pub take-front : (xs ys : List X) (n : ℕ) → n ≤ length xs → take n (xs ++ ys) ≡ take n xs
  take-front xs ys zero l = refl
  take-front [] ys (suc n) l = absurd (omega arith)
  take-front (x ∷ xs) ys (suc n) l = ap (λ zs. x ∷ zs) (take-front xs ys n (omega arith))

  pub take-whole : (xs : List X) → take (length xs) xs ≡ xs
  take-whole [] = refl
  take-whole (x ∷ xs) = ap (λ zs. x ∷ zs) (take-whole xs)

  pub take-fewer : (xs : List X) (n k : ℕ) → k ≤ n → take k (take n xs) ≡ take k xs
  take-fewer xs n zero l = refl
  take-fewer xs zero (suc k) l = absurd (omega arith)
  take-fewer [] (suc n) (suc k) l = refl
  take-fewer (x ∷ xs) (suc n) (suc k) l = ap (λ zs. x ∷ zs) (take-fewer xs n k (omega arith))

  get-last : (xs : List X) (y : X) → slice_get (xs ++ y ∷ []) (length xs) ≡ Some y
  get-last [] y = refl
  get-last (x ∷ xs) y = get-last xs y

  pub last-is : (xs : List X) (y x : X) (n : ℕ) → n ≡ length xs → slice_get (xs ++ y ∷ []) n ≡ Some x → y ≡ x
  last-is xs y x n e at = let l = get-last xs y in let f : slice_get (xs ++ y ∷ []) n ≡ Some y = subst (λ m. slice_get (xs ++ y ∷ []) m ≡ Some y) (sym e) l in cc

  pub front-or-last : (xs : List X) (y : X) (n : ℕ) (x : X) → slice_get (xs ++ y ∷ []) n ≡ Some x → (n < length xs) ⊎ (n ≡ length xs)
  front-or-last [] y zero x e = inr refl
  front-or-last [] y (suc n) x e = cc
  front-or-last (z ∷ xs) y zero x e = inl (omega arith)
  front-or-last (z ∷ xs) y (suc n) x e = ⊎_elim (λ l. inl (omega arith)) (λ l. inr (omega arith)) (front-or-last xs y n x e)

module _ {X Y : Type 0} where
  pub zip-weaker : (R S : X → Y → Type 0) → ((x : X) (y : Y) → R x y → S x y) → (xs : List X) (ys : List Y) → AllZip R xs ys → AllZip S xs ys
  zip-weaker R S f [] [] h = h
  zip-weaker R S f [] (y ∷ ys) h = absurd h
  zip-weaker R S f (x ∷ xs) [] h = absurd h
  zip-weaker R S f (x ∷ xs) (y ∷ ys) h = (f x y h.0, zip-weaker R S f xs ys h.1)

  -- each member of the second list stands beside one of the first
  pub zip-right : (R : X → Y → Type 0) (xs : List X) (ys : List Y) → AllZip R xs ys → (y : Y) → Contains ys y → (x : X) × Contains xs x × R x y
  zip-right R [] [] h y m = absurd (no_member y m)
  zip-right R [] (z ∷ ys) h y m = absurd h
  zip-right R (x ∷ xs) [] h y m = absurd h
  zip-right R (x ∷ xs) (z ∷ ys) h y m = ⊎_elim
      (λ here. (x, at_front x xs, subst (R x) here h.0))
      (λ later. let r = zip-right R xs ys h.1 y later in (r.0, behind x xs r.0 r.1, r.2))
      (front_or_behind z ys y m)

  -- and the other way
  pub zip-left : (R : X → Y → Type 0) (xs : List X) (ys : List Y) → AllZip R xs ys → (x : X) → Contains xs x → (y : Y) × Contains ys y × R x y
  zip-left R [] [] h x m = absurd (no_member x m)
  zip-left R [] (z ∷ ys) h x m = absurd h
  zip-left R (w ∷ xs) [] h x m = absurd h
  zip-left R (w ∷ xs) (z ∷ ys) h x m = ⊎_elim
      (λ here. (z, at_front z ys, subst (λ u. R u z) here h.0))
      (λ later. let r = zip-left R xs ys h.1 x later in (r.0, behind z ys r.0 r.1, r.2))
      (front_or_behind w xs x m)
