-- The literals that are pushed, path by path.
use Rattle.std.specs.Prelude.{◌≡◌, ◌⊎◌, ℕ, ◌<◌, ◌≤◌, List, slice_index, Option, unwrap_or}
use Rattle.fapp_model.specs.declared.literal.Literal.{Literal}
use Rattle.nogood.specs.Partials.{choice_given}

-- a literal's path is before another's, or both have one path and its choice is not behind
abbrev pub IsNotAfter : Literal → Literal → Type 0
IsNotAfter a b = (a.path < b.path) ⊎ ((a.path ≡ b.path) × (a.choice ≤ b.choice))

-- what is given at each path, 0 where nothing is
abbrev pub IsPlanOf : List (Option ℕ) → ℕ → List ℕ → Type 0
IsPlanOf slots paths plan =
    (path : ℕ) → path < paths → slice_index plan path ≡ unwrap_or (choice_given slots path) 0
