-- The work order is one.
use Rattle.std.proofs.Common.{◌≡◌, ◌⊎◌, ℕ, suc, ◌<◌, Bool, true, false, ◌&&◌, ◌||◌, eqb, ltb, List, [], ◌∷◌, length, All, AllPairs, Contains, IsTrue, refl, ap, subst, inl, inr, ⊎_elim, arith}
use Rattle.std.specs.List.{range_with_len}
use Rattle.std.proofs.lemmas.Bool.{cases_Bool}
use Rattle.std.proofs.lemmas.Bool.Decides.{nat_tests}
use Rattle.std.proofs.lemmas.List.FromFn.{length-range_with_len}
use Rattle.std.proofs.lemmas.List.Elements.{All-nil, All-cons, All-head, All-tail, All-contains, All-weaker}
use Rattle.fapp_model.specs.declared.instance.Instance.{Instance}
use Rattle.fapp_model.specs.search.WorkOrder.{IsWorkOrder, work_order, comes_before, degree, put_in, put_all}
use Rattle.fapp_model.proofs.Members.{at_front, behind, front_or_behind, no_member, in-range, from-range, All-from_members}
use Rattle.fapp_model.proofs.InOrder.{pairs-nil, pairs-head, pairs-tail, pairs-cons, same_members, rising}

-- the order of two numbers of records and two positions
abbrev pub is_first : ℕ → ℕ → ℕ → ℕ → Bool
is_first da db a b = ltb db da || (eqb da db && ltb a b)

first-trans : (da db dc a b c : ℕ) → is_first da db a b ≡ true → is_first db dc b c ≡ true → is_first da dc a c ≡ true
first-trans da db dc a b c h k = grind (arith, nat_tests)

first-total : (da db a b : ℕ) → a < b → is_first da db a b ≡ false → is_first db da b a ≡ true
first-total da db a b l h = grind (arith, nat_tests)

pub first-asym : (da db a b : ℕ) → is_first da db a b ≡ true → is_first db da b a ≡ true → ⊥
first-asym da db a b h k = grind (arith, nat_tests)

module _ (before : ℕ → ℕ → Bool) where
  pub length-put_in : (a : ℕ) (bs : List ℕ) → length (put_in before a bs) ≡ suc (length bs)
  length-put_in a [] = refl
  length-put_in a (b ∷ bs) = ⊎_elim
      (λ yes. rw yes refl)
      (λ no. rw no (ap suc (length-put_in a bs)))
      (cases_Bool (before a b))

  pub length-put_all : (xs : List ℕ) → length (put_all before xs) ≡ length xs
  length-put_all [] = refl
  length-put_all (x ∷ xs) = omega (arith, length-put_in x (put_all before xs), length-put_all xs)

  from-put_in : (a : ℕ) (bs : List ℕ) (x : ℕ) → Contains (put_in before a bs) x → (a ≡ x) ⊎ Contains bs x
  from-put_in a [] x h = front_or_behind a [] x h
  from-put_in a (b ∷ bs) x h = ⊎_elim
      (λ yes. front_or_behind a (b ∷ bs) x (rw yes at h))
      (λ no. ⊎_elim
      (λ e. inr (subst (λ z. Contains (b ∷ bs) z) e (at_front b bs)))
      (λ later. ⊎_elim (λ e. inl e) (λ m. inr (behind b bs x m)) (from-put_in a bs x later))
      (front_or_behind b (put_in before a bs) x (rw no at h)))
      (cases_Bool (before a b))

  in-put_in : (a : ℕ) (bs : List ℕ) (x : ℕ) → (a ≡ x) ⊎ Contains bs x → Contains (put_in before a bs) x
  in-put_in a [] x h = ⊎_elim (λ e. subst (λ z. Contains (a ∷ []) z) e (at_front a [])) (λ m. absurd (no_member x m)) h
  in-put_in a (b ∷ bs) x h = ⊎_elim
      (λ yes. rw yes (⊎_elim (λ e. subst (λ z. Contains (a ∷ b ∷ bs) z) e (at_front a (b ∷ bs))) (λ m. behind a (b ∷ bs) x m) h))
      (λ no. rw no (⊎_elim
      (λ e. behind b (put_in before a bs) x (in-put_in a bs x (inl e)))
      (λ m. ⊎_elim
      (λ e. subst (λ z. Contains (b ∷ put_in before a bs) z) e (at_front b (put_in before a bs)))
      (λ later. behind b (put_in before a bs) x (in-put_in a bs x (inr later)))
      (front_or_behind b bs x m))
      h))
      (cases_Bool (before a b))

  pub from-put_all : (xs : List ℕ) (x : ℕ) → Contains (put_all before xs) x → Contains xs x
  from-put_all [] x h = h
  from-put_all (y ∷ xs) x h = ⊎_elim
      (λ e. subst (λ z. Contains (y ∷ xs) z) e (at_front y xs))
      (λ m. behind y xs x (from-put_all xs x m))
      (from-put_in y (put_all before xs) x h)

  pub in-put_all : (xs : List ℕ) (x : ℕ) → Contains xs x → Contains (put_all before xs) x
  in-put_all [] x h = h
  in-put_all (y ∷ xs) x h = in-put_in y (put_all before xs) x
      (⊎_elim (λ e. inl e) (λ m. inr (in-put_all xs x m)) (front_or_behind y xs x h))

  module _ (trans : (a b c : ℕ) → IsTrue (before a b) → IsTrue (before b c) → IsTrue (before a c)) (total : (a b : ℕ) → a < b → before a b ≡ false → IsTrue (before b a)) where
    ordered-put_in : (a : ℕ) (bs : List ℕ) → All (λ b. a < b) bs → AllPairs (λ x y. IsTrue (before x y)) bs → AllPairs (λ x y. IsTrue (before x y)) (put_in before a bs)
    ordered-put_in a [] above h = pairs-cons (λ x y. IsTrue (before x y)) a [] (All-nil (λ y. IsTrue (before a y))) h
    ordered-put_in a (b ∷ bs) above h =
        let front : All (λ y. IsTrue (before b y)) bs = pairs-head (λ x y. IsTrue (before x y)) b bs h in
        let here : a < b = All-head (λ y. a < y) b bs above in
        ⊎_elim
        (λ yes. rw yes (pairs-cons (λ x y. IsTrue (before x y)) a (b ∷ bs)
        (All-cons (λ y. IsTrue (before a y)) b bs yes (All-weaker (λ y. IsTrue (before b y)) (λ y. IsTrue (before a y)) (λ y r. trans a b y yes r) bs front)) h))
        (λ no. rw no (pairs-cons (λ x y. IsTrue (before x y)) b (put_in before a bs)
        (All-from_members (λ y. IsTrue (before b y)) (put_in before a bs) (λ y m. ⊎_elim
        (λ e. subst (λ z. IsTrue (before b z)) e (total a b here no))
        (λ later. All-contains (λ z. IsTrue (before b z)) bs y front later)
        (from-put_in a bs y m)))
        (ordered-put_in a bs (All-tail (λ y. a < y) b bs above) (pairs-tail (λ x y. IsTrue (before x y)) b bs h))))
        (cases_Bool (before a b))

    pub ordered-put_all : (xs : List ℕ) → AllPairs (λ x y. x < y) xs → AllPairs (λ x y. IsTrue (before x y)) (put_all before xs)
    ordered-put_all [] h = pairs-nil (λ x y. IsTrue (before x y))
    ordered-put_all (x ∷ xs) h =
        ordered-put_in x (put_all before xs)
        (All-from_members (λ y. x < y) (put_all before xs) (λ y m. All-contains (λ z. x < z) xs y (pairs-head (λ u v. u < v) x xs h) (from-put_all xs y m)))
        (ordered-put_all xs (pairs-tail (λ u v. u < v) x xs h))

pub order-is : (instance : Instance) → IsWorkOrder instance (work_order instance)
unfolding work_order
order-is instance =
    let n = length instance.paths in
    record {
      in_range = All-from_members (λ path. path < n) (put_all (comes_before instance) (range_with_len 0 n))
          (λ path m. from-range n path (from-put_all (comes_before instance) (range_with_len 0 n) path m));
      whole = λ path l. in-put_all (comes_before instance) (range_with_len 0 n) path (in-range n path l);
      ordered = ordered-put_all (comes_before instance)
          (λ a b c h k. first-trans (degree instance a) (degree instance b) (degree instance c) a b c h k)
          (λ a b l h. first-total (degree instance a) (degree instance b) a b l h)
          (range_with_len 0 n) (rising 0 n);
    }

pub order-length : (instance : Instance) → length (work_order instance) ≡ length instance.paths
unfolding work_order
order-length instance =
    omega (arith, length-put_all (comes_before instance) (range_with_len 0 (length instance.paths)), length-range_with_len 0 (length instance.paths))

in-order : (instance : Instance) (order other : List ℕ) → IsWorkOrder instance order → IsWorkOrder instance other → (path : ℕ) → Contains order path → Contains other path
in-order instance order other h k path m =
    k.whole path (All-contains (λ p. p < length instance.paths) order path h.in_range m)

pub order-one : (instance : Instance) (order : List ℕ) → IsWorkOrder instance order → order ≡ work_order instance
order-one instance order h =
    let own = order-is instance in
    same_members (λ a b. IsTrue (comes_before instance a b))
    (λ a b. first-asym (degree instance a) (degree instance b) a b)
    order (work_order instance) h.ordered own.ordered
    (in-order instance order (work_order instance) h own)
    (in-order instance (work_order instance) order own h)
