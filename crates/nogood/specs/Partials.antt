-- Choices by path.
use Rattle.std.specs.Prelude.{◌≡◌, ℕ, List, Option, Some, None, slice_index_or}
use Rattle.fapp_model.specs.declared.literal.Literal.{Literal}

-- the choice at a path, None where it is not set or out of range
abbrev pub choice_given : List (Option ℕ) → ℕ → Option ℕ
choice_given part path = slice_index_or part path None

-- the literal's path is set to its choice
abbrev pub GivesChoice : List (Option ℕ) → Literal → Type 0
GivesChoice part a = choice_given part a.path ≡ Some a.choice
