-- What a bound tells and is offered, as codes of tags.
use Rattle.std.specs.Prelude.{◌≡◌, ℕ, ◌≤◌, min, Option, Some, None}

-- the tag that the bound began with, the tag that was told last, and the least that was offered
pub record BoundState : Type 0 where
  pub began : ℕ
  pub told : ℕ
  pub least : Option ℕ

-- the lesser of two, where the second may be missing
abbrev pub lowest : ℕ → Option ℕ → ℕ
lowest told None = told
lowest told (Some least) = min told least

-- the least of what was told last and what was offered
abbrev pub floor : BoundState → ℕ
floor state = lowest state.told state.least

-- the least offer after one more
abbrev pub with_offer : Option ℕ → ℕ → Option ℕ
with_offer None tag = Some tag
with_offer (Some least) tag = Some (min least tag)

-- what is told never rises, and is at most each offer; it is no offer
pub record Tells (old new : BoundState) (tag : ℕ) : Type 0 where
  pub began : new.began ≡ old.began
  pub told : new.told ≡ tag
  pub falls : tag ≤ floor old
  pub least : new.least ≡ old.least

-- an offer tells nothing
pub record Offers (old new : BoundState) (tag : ℕ) : Type 0 where
  pub began : new.began ≡ old.began
  pub told : new.told ≡ old.told
  pub least : new.least ≡ with_offer old.least tag
