-- The share that is left after each halving.
use Rattle.std.proofs.Common.{◌≡◌, ℕ, suc, ◌+◌, ◌-◌, ◌*◌, ◌/◌, ◌^◌, ◌<◌, ◌≤◌, ap, ◌∙◌, arith}
use Rattle.std.proofs.Math.Nat.{pow-suc, one-le-pow}

-- half of a power of two from 2 on
pub halved : (share m : ℕ) → share ≡ 2 ^ suc m → (2 ≤ share) × (share - share / 2 ≡ 2 ^ m)
halved share m e =
    let p : ℕ = 2 ^ m in
    let double : share ≡ p * 2 = e ∙ pow-suc 2 m in
    let some : 1 ≤ p = one-le-pow m 2 (omega arith) in
    (omega arith, omega arith)

-- a whole share that was halved k times can be halved once more
pub halve : (share k : ℕ) → share ≡ 2 ^ (32 - k) → k < 32 → (2 ≤ share) × (share - share / 2 ≡ 2 ^ (32 - (k + 1)))
halve share k e lt =
    let m : ℕ = 32 - (k + 1) in
    let up : 32 - k ≡ suc m = omega arith in
    halved share m (e ∙ ap (λ (n : ℕ). 2 ^ n) up)
