-- Operations on lists of literals.
use Rattle.std.specs.Prelude.{◌≡◌, ◌⊎◌, ℕ, ◌<◌, not, ◌==◌, List, filter, All, AllPairs, Contains}
use Rattle.fapp_model.specs.declared.literal.Literal.{Literal}
use Rattle.fapp_model.specs.search.Partials.{HasAll}

-- each literal's path is below that of the next one
abbrev pub IsAscending : List Literal → Type 0
IsAscending literals = AllPairs (λ a b. a.path < b.path) literals

-- on a path that both lists name they have one choice
abbrev pub Agree : List Literal → List Literal → Type 0
Agree left right = (a b : Literal) → Contains left a → Contains right b → a.path ≡ b.path → a ≡ b

-- the literals of all paths but one
abbrev pub other_paths : ℕ → List Literal → List Literal
other_paths path literals = filter (λ a. not (a.path == path)) literals

-- the literals of either list, each once, ascending by path
pub record IsJoin (left right joined : List Literal) : Type 0 where
  pub ascending : IsAscending joined
  pub has_left : HasAll joined left
  pub has_right : HasAll joined right
  pub only : All (λ a. Contains left a ⊎ Contains right a) joined
