-- What taking a tick does.
use Rattle.std.specs.Prelude.{◌≡◌, ℕ, ◌+◌, Bool, true, false}

-- one less, or nothing was left
abbrev pub TakesTick : ℕ → ℕ → Bool → Type 0
TakesTick old new true = old ≡ new + 1
TakesTick old new false = (old ≡ 0) × (new ≡ 0)
