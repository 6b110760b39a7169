-- Tags that are compared.
use Rattle.std.proofs.Common.{◌≡◌, ℕ, ◌<◌, ◌≤◌, Bool, true, false, is_le, nat_cmp, sym, ◌∙◌, arith}
use Rattle.std.proofs.lemmas.Bool.Decides.{nat_tests}

at-most-tested : (a b : ℕ) → is_le (nat_cmp a b) ≡ true → a ≤ b
at-most-tested a b h = grind (arith, nat_tests)

above-tested : (a b : ℕ) → is_le (nat_cmp a b) ≡ false → b < a
above-tested a b h = grind (arith, nat_tests)

pub at-most-by : (result : Bool) (a b : ℕ) → result ≡ is_le (nat_cmp a b) → result ≡ true → a ≤ b
at-most-by result a b is holds = at-most-tested a b (sym is ∙ holds)

pub above-by : (result : Bool) (a b : ℕ) → result ≡ is_le (nat_cmp a b) → result ≡ false → b < a
above-by result a b is fails = above-tested a b (sym is ∙ fails)
