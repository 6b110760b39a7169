-- A place that was found, and none.
use Rattle.std.proofs.Common.{◌≡◌, ℕ, ◌<◌, ◌≤◌, Bool, not, cond, ltb, List, length, Option, Some, None, arith}
use Rattle.std.specs.List.{position, position_or_len}
use Rattle.std.proofs.lemmas.List.Sums.{prefix_len-le-length}

found_at : (n p : ℕ) (place : ℕ) → ◌≡◌ {A = Option ℕ} (cond (ltb p n) (Some p) None) (Some place) → (p ≡ place) × (p < n)
found_at n p place e = (grind arith, grind arith)

none_at : (n p : ℕ) → ◌≡◌ {A = Option ℕ} (cond (ltb p n) (Some p) None) None → n ≤ p
none_at n p e = grind arith

pub position_some : (test : ℕ → Bool) (bytes : List ℕ) (place : ℕ) → position test bytes ≡ Some place → (position_or_len test bytes ≡ place) × (position_or_len test bytes < length bytes)
position_some test bytes place e = found_at (length bytes) (position_or_len test bytes) place e

pub position_none : (test : ℕ → Bool) (bytes : List ℕ) → position test bytes ≡ None → position_or_len test bytes ≡ length bytes
position_none test bytes e = omega (arith, none_at (length bytes) (position_or_len test bytes) e, prefix_len-le-length (λ b. not (test b)) bytes)
