-- The first fault of stretches of lines, one behind another.
use Rattle.std.proofs.Common.{◌≡◌, ℕ, zero, suc, ◌+◌, ◌-◌, ◌≤◌, true, false, is_some, refl, ap, sym, ◌∙◌, arith, Option, Some, None}
use Rattle.std.specs.List.{range_with_len}
use Rattle.std.specs.Option.{option_or}
use Rattle.cert_lines.specs.acceptance.LineFaults.{first_of}

or_joined : {Y : Type 0} (x y z : Option Y) → option_or x (option_or y z) ≡ option_or (option_or x y) z
or_joined None y z = refl
or_joined (Some v) y z = refl

module _ {Y : Type 0} (f : ℕ → Option Y) where
  abbrev pub first_in : ℕ → ℕ → Option Y
  first_in from to = first_of f (range_with_len from (to - from))

  two : (a n m : ℕ) → first_of f (range_with_len a (n + m)) ≡ option_or (first_of f (range_with_len a n)) (first_of f (range_with_len (a + n) m))
  two a zero m =
      let none : zero + m ≡ m = omega arith in
      let same : a + zero ≡ a = omega arith in
      ap (λ k. first_of f (range_with_len a k)) none ∙ sym (ap (λ k. first_of f (range_with_len k m)) same)
  two a (suc n) m =
      let one : suc n + m ≡ suc (n + m) = omega arith in
      let next : a + 1 + n ≡ a + suc n = omega arith in
      ap (λ k. first_of f (range_with_len a k)) one
      ∙ ap (λ o. option_or (f a) o) (two (a + 1) n m)
      ∙ or_joined (f a) (first_of f (range_with_len (a + 1) n)) (first_of f (range_with_len (a + 1 + n) m))
      ∙ ap (λ k. option_or (first_of f (range_with_len a (suc n))) (first_of f (range_with_len k m))) next

  joined : (a b c : ℕ) → a ≤ b → b ≤ c → first_in a c ≡ option_or (first_in a b) (first_in b c)
  joined a b c low high =
      let size : c - a ≡ (b - a) + (c - b) = omega arith in
      let middle : a + (b - a) ≡ b = omega arith in
      ap (λ n. first_of f (range_with_len a n)) size ∙ two a (b - a) (c - b) ∙ ap (λ k. option_or (first_in a b) (first_of f (range_with_len k (c - b)))) middle

  -- a stretch without a fault says nothing of the first fault
  pub behind : (a b c : ℕ) → a ≤ b → b ≤ c → first_in a b ≡ None → first_in a c ≡ first_in b c
  behind a b c low high none = joined a b c low high ∙ ap (λ o. option_or o (first_in b c)) none

  -- the first fault of a stretch is that of a longer one
  pub longer : (a b c : ℕ) (o : Option Y) → a ≤ b → b ≤ c → is_some o ≡ true → o ≡ first_in a b → o ≡ first_in a c
  longer a b c None low high some e = absurd (cc)
  longer a b c (Some v) low high some e = sym (joined a b c low high ∙ ap (λ o. option_or o (first_in b c)) (sym e))

  pub single : (n : ℕ) → first_in n (n + 1) ≡ f n
  single n =
      let one : n + 1 - n ≡ suc zero = omega arith in
      ap (λ k. first_of f (range_with_len n k)) one ∙ alone (f n)
    where
      alone : (o : Option Y) → option_or o None ≡ o
      alone None = refl
      alone (Some v) = refl

  pub empty : (n : ℕ) → first_in n n ≡ None
  empty n = let none : n - n ≡ zero = omega arith in ap (λ k. first_of f (range_with_len n k)) none

  -- from the first line on
  pub from-first : (n : ℕ) → first_in 0 n ≡ first_of f (range_with_len 0 n)
  from-first n = let all : n - 0 ≡ n = omega arith in ap (λ k. first_of f (range_with_len 0 k)) all

  is_none : (o : Option Y) → is_some o ≡ false → o ≡ None
  is_none None e = refl
  is_none (Some v) e = absurd (cc)

  -- no fault up to a place, and the next stretch is looked at
  pub none-more : (a b c : ℕ) (o : Option Y) → a ≤ b → b ≤ c → first_in a b ≡ None → is_some o ≡ false → o ≡ first_in b c → first_in a c ≡ None
  none-more a b c o low high none nothing e = behind a b c low high none ∙ sym e ∙ is_none o nothing

  pub some-more : (a b c d : ℕ) (o : Option Y) → a ≤ b → b ≤ c → c ≤ d → first_in a b ≡ None → is_some o ≡ true → o ≡ first_in b c → o ≡ first_in a d
  some-more a b c d o low high long none some e = longer a c d o (omega arith) long some (e ∙ sym (behind a b c low high none))
