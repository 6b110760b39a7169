-- Bytes that are given in pieces.
use Rattle.std.specs.Prelude.{◌≡◌, ℕ, min, List, length, take, drop}

-- the bytes that are left, and how many of them may be given at once
pub record Supply : Type 0 where
  pub left : List ℕ
  pub most : ℕ

-- how many are given next, where the room has place for so many
abbrev pub next_given : Supply → ℕ → ℕ
next_given supply room = min (min supply.most room) (length supply.left)

-- the next n bytes were put into the room, as many as may be given at once, the room has place for,
-- and are left
pub record FedBy (old new : Supply) (room : List ℕ) (n : ℕ) : Type 0 where
  pub count : n ≡ next_given old (length room)
  pub given : take n room ≡ take n old.left
  pub left : new ≡ record old { left = drop n old.left }
