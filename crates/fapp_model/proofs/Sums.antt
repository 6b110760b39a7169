-- Sums and counts over lists, by what holds of their members.
use Rattle.std.proofs.Common.{◌≡◌, ℕ, ◌+◌, ◌*◌, ◌<◌, ◌≤◌, Bool, true, false, cond, List, [], ◌∷◌, get_or, refl, sym, ap, subst, arith, sum_by, count_by, All}
use Rattle.std.specs.List.{range_with_len}
use Rattle.std.proofs.lemmas.List.Sums.{sum_by-cons, get_or-le-sum_by, sum_by-le}
use Rattle.std.proofs.lemmas.List.Elements.{All-head, All-tail, All-cons, All-nil}
use Rattle.std.proofs.lemmas.List.FromFn.{length-range_with_len, get_or-range_with_len}
use Rattle.fapp_model.proofs.Members.{All-range, in-range}

pub sum_by-le-members : {X : Type 0} (f g : X → ℕ) (xs : List X) → All (λ x. f x ≤ g x) xs → sum_by f xs ≤ sum_by g xs
sum_by-le-members f g [] h = omega arith
sum_by-le-members f g (x ∷ xs) h =
    let here : f x ≤ g x = All-head (λ x. f x ≤ g x) x xs h in
    let rest = sum_by-le-members f g xs (All-tail (λ x. f x ≤ g x) x xs h) in
    omega (arith, sum_by-cons f x xs, sum_by-cons g x xs)

pub sum_by-same-members : {X : Type 0} (f g : X → ℕ) (xs : List X) → All (λ x. f x ≡ g x) xs → sum_by f xs ≡ sum_by g xs
sum_by-same-members f g [] h = refl
sum_by-same-members f g (x ∷ xs) h =
    let here : f x ≡ g x = All-head (λ x. f x ≡ g x) x xs h in
    let rest = sum_by-same-members f g xs (All-tail (λ x. f x ≡ g x) x xs h) in
    omega (arith, sum_by-cons f x xs, sum_by-cons g x xs)

pub sum_by-add : {X : Type 0} (f g : X → ℕ) (xs : List X) → sum_by (λ x. f x + g x) xs ≡ sum_by f xs + sum_by g xs
sum_by-add f g [] = omega arith
sum_by-add f g (x ∷ xs) =
    let rest = sum_by-add f g xs in
    omega (arith, sum_by-cons f x xs, sum_by-cons g x xs, sum_by-cons (λ x. f x + g x) x xs)

pub sum_by-none : {X : Type 0} (f : X → ℕ) (xs : List X) → All (λ x. f x ≡ 0) xs → sum_by f xs ≡ 0
sum_by-none f [] h = refl
sum_by-none f (x ∷ xs) h =
    let here : f x ≡ 0 = All-head (λ x. f x ≡ 0) x xs h in
    let rest = sum_by-none f xs (All-tail (λ x. f x ≡ 0) x xs h) in
    omega (arith, sum_by-cons f x xs)

pub none-sum_by : {X : Type 0} (f : X → ℕ) (xs : List X) → sum_by f xs ≡ 0 → All (λ x. f x ≡ 0) xs
none-sum_by f [] h = All-nil (λ x. f x ≡ 0)
none-sum_by f (x ∷ xs) h =
    All-cons (λ x. f x ≡ 0) x xs (omega (arith, sum_by-cons f x xs)) (none-sum_by f xs (omega (arith, sum_by-cons f x xs)))

pub sum_by-swap : {X Y : Type 0} (f : X → Y → ℕ) (xs : List X) (ys : List Y) → sum_by (λ x. sum_by (λ y. f x y) ys) xs ≡ sum_by (λ y. sum_by (λ x. f x y) xs) ys
sum_by-swap f [] ys = sym (sum_by-none (λ y. 0) ys (λ k d l. refl))
sum_by-swap f (x ∷ xs) ys =
    let rest = sum_by-swap f xs ys in
    let split = sum_by-add (λ y. f x y) (λ y. sum_by (λ x. f x y) xs) ys in
    let joined = sum_by-same-members (λ y. sum_by (λ x. f x y) (x ∷ xs)) (λ y. f x y + sum_by (λ x. f x y) xs) ys (λ k d l. sum_by-cons (λ x. f x (get_or ys k d)) x xs) in
    omega (arith, sum_by-cons (λ x. sum_by (λ y. f x y) ys) x xs)

-- a count where the test fails nowhere more
pub cond-le : (p q : Bool) → (p ≡ true → q ≡ true) → cond p 1 0 ≤ cond q 1 0
cond-le true q h = elim q as (λ v. (true ≡ true → v ≡ true) → 1 ≤ cond v 1 0) [ true ↦ λ _. omega arith | false ↦ λ e. absurd (let bad : false ≡ true = e refl in cc) ] h
cond-le false q h = omega arith

pub count_by-le-members : {X : Type 0} (p q : X → Bool) (xs : List X) → All (λ x. p x ≡ true → q x ≡ true) xs → count_by p xs ≤ count_by q xs
count_by-le-members p q xs h = sum_by-le-members (λ x. cond (p x) 1 0) (λ x. cond (q x) 1 0) xs (λ k d l. cond-le (p (get_or xs k d)) (q (get_or xs k d)) (h k d l))

cond-none : (p : Bool) → ◌≡◌ {A = ℕ} (cond p 1 0) 0 → p ≡ false
cond-none true h = absurd (omega (arith, h))
cond-none false h = refl

pub none-count_by : {X : Type 0} (p : X → Bool) (xs : List X) → count_by p xs ≡ 0 → All (λ x. p x ≡ false) xs
none-count_by p xs h = λ k d l. cond-none (p (get_or xs k d)) (none-sum_by (λ x. cond (p x) 1 0) xs h k d l)

pub count_by-none : {X : Type 0} (p : X → Bool) (xs : List X) → All (λ x. p x ≡ false) xs → count_by p xs ≡ 0
count_by-none p xs h = sum_by-none (λ x. cond (p x) 1 0) xs (λ k d l. ap (λ b. cond b 1 0) (h k d l))

pub at-range : (P : ℕ → Type 0) (n : ℕ) → All P (range_with_len 0 n) → (m : ℕ) → m < n → P m
at-range P n h m small =
    let at : get_or (range_with_len 0 n) m 0 ≡ m = omega (arith, get_or-range_with_len 0 n m 0 small) in
    subst P at (h m 0 (omega (arith, length-range_with_len 0 n)))

-- over the numbers below a count
pub range-sum-le : (f g : ℕ → ℕ) (n : ℕ) → ((i : ℕ) → i < n → f i ≤ g i) → sum_by f (range_with_len 0 n) ≤ sum_by g (range_with_len 0 n)
range-sum-le f g n h = sum_by-le-members f g (range_with_len 0 n) (All-range (λ i. f i ≤ g i) n h)

pub range-sum-same : (f g : ℕ → ℕ) (n : ℕ) → ((i : ℕ) → i < n → f i ≡ g i) → sum_by f (range_with_len 0 n) ≡ sum_by g (range_with_len 0 n)
range-sum-same f g n h = sum_by-same-members f g (range_with_len 0 n) (All-range (λ i. f i ≡ g i) n h)

pub range-sum-most : (f : ℕ → ℕ) (n m : ℕ) → ((i : ℕ) → i < n → f i ≤ m) → sum_by f (range_with_len 0 n) ≤ n * m
range-sum-most f n m h =
    subst (λ l. sum_by f (range_with_len 0 n) ≤ l * m) (length-range_with_len 0 n) (sum_by-le f m (range_with_len 0 n) (All-range (λ i. f i ≤ m) n h))

-- one part is within the sum
pub range-sum-part : (f : ℕ → ℕ) (n i : ℕ) → i < n → f i ≤ sum_by f (range_with_len 0 n)
range-sum-part f n i l =
    let at = in-range n i l in
    subst (λ m. f m ≤ sum_by f (range_with_len 0 n)) at.2 (get_or-le-sum_by f (range_with_len 0 n) at.0 i at.1)
