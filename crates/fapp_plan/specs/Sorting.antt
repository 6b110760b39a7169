-- Literals by their paths' positions.
use Rattle.std.specs.Prelude.{◌≡◌, ◌⊎◌, ◌<◌, ◌≤◌, nat_lt, if◌then◌else◌, List, [], ◌∷◌}
use Rattle.fapp_model.specs.declared.literal.Literal.{Literal}

-- a literal put in front of the first of a path further behind
abbrev pub put_by_path : Literal → List Literal → List Literal
put_by_path a [] = a ∷ []
put_by_path a (b ∷ more) = if nat_lt a.path b.path then (a ∷ b ∷ more) else (b ∷ put_by_path a more)

-- the literals, put in one by one
abbrev pub by_path : List Literal → List Literal
by_path [] = []
by_path (a ∷ more) = put_by_path a (by_path more)

-- a literal's path is before another's, or both have one path and its choice is not behind
abbrev pub IsNotAfter : Literal → Literal → Type 0
IsNotAfter a b = (a.path < b.path) ⊎ ((a.path ≡ b.path) × (a.choice ≤ b.choice))
