-- The first fault of a list, found one by one.
use Rattle.std.proofs.Common.{◌≡◌, ℕ, zero, suc, ◌+◌, ◌<◌, ◌≤◌, true, false, is_some, zero-add, List, [], ◌∷◌, length, take, get_or, refl, ap, sym, ◌∙◌, arith, Option, Some, None}
use Rattle.std.specs.List.{range_with_len}
use Rattle.std.specs.Option.{option_or}
use Rattle.cert_lines.specs.acceptance.LineFaults.{first_of}
use Rattle.accept_laws.proofs.Options.{neither}
use Rattle.std.proofs.lemmas.List.{take_all}
use Rattle.std.proofs.lemmas.List.FromFn.{length-range_with_len, get_or-range_with_len}

neither-of : {Y : Type 0} (x y : Option Y) → x ≡ None → y ≡ None → option_or x y ≡ None
neither-of x y e f = ap (λ o. option_or o y) e ∙ f

pub first_at : {X Y : Type 0} (f : X → Option Y) (xs : List X) (i : ℕ) (d : X) (v : Y) → i < length xs → first_of f (take i xs) ≡ None → f (get_or xs i d) ≡ Some v → first_of f xs ≡ Some v
first_at f [] i d v small h e = absurd (omega arith)
first_at f (x ∷ xs) zero d v small h e = ap (λ o. option_or o (first_of f xs)) e
first_at f (x ∷ xs) (suc i) d v small h e =
    let parts = neither (f x) (first_of f (take i xs)) h in
    ap (λ o. option_or o (first_of f xs)) parts.0 ∙ first_at f xs i d v (omega arith) parts.1 e

first_suc : {X Y : Type 0} (f : X → Option Y) (xs : List X) (i : ℕ) (d : X) → i < length xs → first_of f (take i xs) ≡ None → f (get_or xs i d) ≡ None → first_of f (take (suc i) xs) ≡ None
first_suc f [] i d small h e = absurd (omega arith)
first_suc f (x ∷ xs) zero d small h e = neither-of (f x) None e refl
first_suc f (x ∷ xs) (suc i) d small h e =
    let parts = neither (f x) (first_of f (take i xs)) h in
    neither-of (f x) (first_of f (take (suc i) xs)) parts.0 (first_suc f xs i d (omega arith) parts.1 e)

pub first_more : {X Y : Type 0} (f : X → Option Y) (xs : List X) (i : ℕ) (d : X) → i < length xs → first_of f (take i xs) ≡ None → f (get_or xs i d) ≡ None → first_of f (take (i + 1) xs) ≡ None
first_more f xs i d small h e = let one : i + 1 ≡ suc i = omega arith in rw one (first_suc f xs i d small h e)

take_range : (a n m : ℕ) → n ≤ m → take n (range_with_len a m) ≡ range_with_len a n
take_range a zero m within = refl
take_range a (suc n) zero within = absurd (omega arith)
take_range a (suc n) (suc m) within = ap (λ xs. a ∷ xs) (take_range (a + 1) n m (omega arith))

-- over numbers from 0
pub first_at_range : {Y : Type 0} (f : ℕ → Option Y) (m n : ℕ) (o : Option Y) → n < m → first_of f (range_with_len 0 n) ≡ None → is_some o ≡ true → o ≡ f n → o ≡ first_of f (range_with_len 0 m)
first_at_range f m n None small h some e = absurd (cc)
first_at_range f m n (Some v) small h some e =
    sym (first_at f (range_with_len 0 m) n n v (omega (arith, length-range_with_len 0 m)) (ap (first_of f) (take_range 0 n m (omega arith)) ∙ h)
    (ap f (get_or-range_with_len 0 m n n small ∙ zero-add n) ∙ sym e))

pub first_range_more : {Y : Type 0} (f : ℕ → Option Y) (n : ℕ) (o : Option Y) → first_of f (range_with_len 0 n) ≡ None → is_some o ≡ false → o ≡ f n → first_of f (range_with_len 0 (n + 1)) ≡ None
first_range_more f n (Some v) h none e = absurd (cc)
first_range_more f n None h none e =
    let long : n < length (range_with_len 0 (n + 1)) = omega (arith, length-range_with_len 0 (n + 1)) in
    let whole = take_all (n + 1) (range_with_len 0 (n + 1)) (omega (arith, length-range_with_len 0 (n + 1))) in
    sym (ap (first_of f) whole) ∙ first_more f (range_with_len 0 (n + 1)) n n long (ap (first_of f) (take_range 0 n (n + 1) (omega arith)) ∙ h)
    (ap f (get_or-range_with_len 0 (n + 1) n n (omega arith) ∙ zero-add n) ∙ sym e)
