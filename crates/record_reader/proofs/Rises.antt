-- Numbers of which one is greater than the one before it.
use Rattle.std.proofs.Common.{◌≡◌, ℕ, suc, ◌+◌, ◌<◌, ◌≤◌, true, false, ltb, List, [], ◌∷◌, length, get_or, drop, refl, arith, drop-cons}
use Rattle.std.proofs.lemmas.List.{drop_all}
use Rattle.record_reader.specs.Entries.{rises, rises_after}

pub rises_first : (dist : List ℕ) (most : ℕ) → ((i : ℕ) → get_or dist i 0 ≤ most) → rises_after most dist ≡ rises dist
rises_first [] most h = refl
rises_first (n ∷ rest) most h =
    let e : ltb most n ≡ false = let first : n ≤ most = h 0 in grind arith in
    rw e refl

pub rises_yes : (dist : List ℕ) (i last : ℕ) → i < length dist → last < get_or dist i 0 → rises_after last (drop i dist) ≡ true
rises_yes dist i last lt h =
    let e : ltb last (get_or dist i 0) ≡ true = grind arith in
    rw (drop-cons dist i 0 lt, e) refl

pub rises_no : (dist : List ℕ) (i last : ℕ) → i < length dist → get_or dist i 0 ≤ last → rises_after last (drop i dist) ≡ rises_after (get_or dist i 0) (drop (i + 1) dist)
rises_no dist i last lt h =
    let e : ltb last (get_or dist i 0) ≡ false = grind arith in
    let f : i + 1 ≡ suc i = omega arith in
    rw (drop-cons dist i 0 lt, e, f) refl

pub rises_end : (dist : List ℕ) (i last : ℕ) → length dist ≤ i → rises_after last (drop i dist) ≡ false
rises_end dist i last h = rw (drop_all i dist h) refl
