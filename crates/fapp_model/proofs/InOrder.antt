-- What holds of each two members of a list, of which one stands before the other.
use Rattle.std.proofs.Common.{◌≡◌, ℕ, zero, suc, ◌<◌, Bool, List, [], ◌∷◌, ◌++◌, get_or, map, flat_map, filter, All, AllPairs, Contains, refl, sym, subst, ⊎_elim, arith}
use Rattle.std.proofs.lemmas.List.Elements.{All-head, All-tail, All-contains, All-map, All-append, All-filter}
use Rattle.std.specs.List.{range_with_len}
use Rattle.std.proofs.lemmas.List.FromFn.{length-range_with_len, get_or-range_with_len}
use Rattle.std.proofs.lemmas.Bool.{cases_Bool}
use Rattle.fapp_model.proofs.Members.{front_or_behind, at_front, behind, no_member, All-from_members, from-flat_map}

module _ {X : Type 0} (R : X → X → Type 0) where
  pub pairs-nil : AllPairs R []
  pairs-nil i j d below within = absurd (omega arith)

  pub pairs-head : (x : X) (xs : List X) → AllPairs R (x ∷ xs) → All (R x) xs
  pairs-head x xs h k d l = h 0 (suc k) d (omega arith) (omega arith)

  pub pairs-tail : (x : X) (xs : List X) → AllPairs R (x ∷ xs) → AllPairs R xs
  pairs-tail x xs h i j d below within = h (suc i) (suc j) d (omega arith) (omega arith)

  pub pairs-cons : (x : X) (xs : List X) → All (R x) xs → AllPairs R xs → AllPairs R (x ∷ xs)
  pairs-cons x xs front rest zero zero d below within = absurd (omega arith)
  pairs-cons x xs front rest zero (suc j) d below within = front j d (omega arith)
  pairs-cons x xs front rest (suc i) zero d below within = absurd (omega arith)
  pairs-cons x xs front rest (suc i) (suc j) d below within = rest i j d (omega arith) (omega arith)

  pub pairs-append : (xs ys : List X) → AllPairs R xs → AllPairs R ys → All (λ x. All (R x) ys) xs → AllPairs R (xs ++ ys)
  pairs-append [] ys h k across = k
  pairs-append (x ∷ xs) ys h k across =
      pairs-cons x (xs ++ ys)
      (All-append (R x) xs ys (pairs-head x xs h) (All-head (λ z. All (R z) ys) x xs across))
      (pairs-append xs ys (pairs-tail x xs h) k (All-tail (λ z. All (R z) ys) x xs across))

  pub pairs-filter : (p : X → Bool) (xs : List X) → AllPairs R xs → AllPairs R (filter p xs)
  pairs-filter p [] h = h
  pairs-filter p (x ∷ xs) h =
      let rest = pairs-filter p xs (pairs-tail x xs h) in
      ⊎_elim
      (λ yes. rw yes (pairs-cons x (filter p xs) (All-filter p (R x) xs (pairs-head x xs h)) rest))
      (λ no. rw no rest)
      (cases_Bool (p x))

  -- Two lists with the same members are one, where no two members may stand in either order.
  pub same_members : ((x y : X) → R x y → R y x → ⊥) → (xs ys : List X) → AllPairs R xs → AllPairs R ys → ((x : X) → Contains xs x → Contains ys x) → ((x : X) → Contains ys x → Contains xs x) → xs ≡ ys
  same_members asym [] [] h k to from = refl
  same_members asym [] (y ∷ ys) h k to from = absurd (no_member y (from y (at_front y ys)))
  same_members asym (x ∷ xs) [] h k to from = absurd (no_member x (to x (at_front x xs)))
  same_members asym (x ∷ xs) (y ∷ ys) h k to from =
      let same : x ≡ y = heads x y xs ys (pairs-head x xs h) (pairs-head y ys k) (to x (at_front x xs)) (from y (at_front y ys)) in
      let rest : xs ≡ ys = same_members asym xs ys (pairs-tail x xs h) (pairs-tail y ys k)
      (λ z m. later x y ys (sym same) z (All-contains (R x) xs z (pairs-head x xs h) m) (to z (behind x xs z m)))
      (λ z m. later y x xs same z (All-contains (R y) ys z (pairs-head y ys k) m) (from z (behind y ys z m))) in
      cc
    where
      heads : (a b : X) (more others : List X) → All (R a) more → All (R b) others → Contains (b ∷ others) a → Contains (a ∷ more) b → a ≡ b
      heads a b more others fa fb ma mb = ⊎_elim
          (λ e. sym e)
          (λ in_others. ⊎_elim
          (λ e. e)
          (λ in_more. absurd (asym a b (All-contains (R a) more b fa in_more) (All-contains (R b) others a fb in_others)))
          (front_or_behind a more b mb))
          (front_or_behind b others a ma)

      later : (a b : X) (others : List X) → b ≡ a → (z : X) → R a z → Contains (b ∷ others) z → Contains others z
      later a b others e z r m = ⊎_elim
          (λ bz. let loop : R b b = subst (λ u. R u b) (sym e) (subst (R a) (sym bz) r) in absurd (asym b b loop loop))
          (λ in_others. in_others)
          (front_or_behind b others z m)

-- pairs in what a function makes of each member
module _ {X Y : Type 0} (R : Y → Y → Type 0) where
  pub pairs-map : (f : X → Y) (xs : List X) → AllPairs (λ x y. R (f x) (f y)) xs → AllPairs R (map f xs)
  pairs-map f [] h = pairs-nil R
  pairs-map f (x ∷ xs) h =
      pairs-cons R (f x) (map f xs)
      (All-map (R (f x)) f xs (pairs-head (λ a b. R (f a) (f b)) x xs h))
      (pairs-map f xs (pairs-tail (λ a b. R (f a) (f b)) x xs h))

  -- within what one member makes, and from that to what a later member makes
  pub pairs-flat_map : (f : X → List Y) (xs : List X) → All (λ x. AllPairs R (f x)) xs → AllPairs (λ x y. (a b : Y) → Contains (f x) a → Contains (f y) b → R a b) xs → AllPairs R (flat_map f xs)
  pairs-flat_map f [] inner outer = pairs-nil R
  pairs-flat_map f (x ∷ xs) inner outer =
      let Between : X → X → Type 0 = λ u v. (a b : Y) → Contains (f u) a → Contains (f v) b → R a b in
      let front = pairs-head Between x xs outer in
      pairs-append R (f x) (flat_map f xs) (All-head (λ z. AllPairs R (f z)) x xs inner)
      (pairs-flat_map f xs (All-tail (λ z. AllPairs R (f z)) x xs inner) (pairs-tail Between x xs outer))
      (All-from_members (λ a. All (R a) (flat_map f xs)) (f x) (λ a ma. All-from_members (R a) (flat_map f xs)
      (λ b mb. let r = from-flat_map f xs b mb in All-contains (Between x) xs r.0 front r.1 a b ma r.2)))

pub pairs-weaker : {X : Type 0} (R S : X → X → Type 0) → ((x y : X) → R x y → S x y) → (xs : List X) → AllPairs R xs → AllPairs S xs
pairs-weaker R S f xs h i j d below within = f (get_or xs i d) (get_or xs j d) (h i j d below within)

-- a range rises
pub rising : (a n : ℕ) → AllPairs (λ x y. x < y) (range_with_len a n)
rising a n i j d below within =
    let l = length-range_with_len a n in
    omega (arith, get_or-range_with_len a n i d (omega arith), get_or-range_with_len a n j d (omega arith))
