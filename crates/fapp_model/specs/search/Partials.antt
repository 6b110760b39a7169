-- Partial assignments: choices for some paths.
use Rattle.std.specs.Prelude.{◌≡◌, ◌≢◌, ℕ, ◌<◌, Bool, ◌==◌, List, length, slice_index, All, AllPairs, Contains}
use Rattle.std.specs.List.{list_any}
use Rattle.fapp_model.specs.declared.choice.Choice.{Choice}
use Rattle.fapp_model.specs.declared.instance.Instance.{Instance}
use Rattle.fapp_model.specs.declared.literal.Literal.{Literal}
use Rattle.fapp_model.specs.Choices.{choice as choice_by_index}
use Rattle.fapp_model.specs.Assignments.{path_at, count_at}

-- a path's choice by their positions
abbrev pub literal : ℕ → ℕ → Literal
literal path index = record { path = path; choice = index }

abbrev pub choice_of : Instance → Literal → Choice
choice_of instance a = choice_by_index (path_at instance a.path) a.choice

-- a literal of an instance
pub record IsLiteral (instance : Instance) (a : Literal) : Type 0 where
  pub path : a.path < length instance.paths
  pub choice : a.choice < count_at instance a.path

-- literals of an instance, no two of one path
pub record IsPartial (instance : Instance) (literals : List Literal) : Type 0 where
  pub in_range : All (IsLiteral instance) literals
  pub distinct : AllPairs (λ a b. a.path ≢ b.path) literals

-- literals of an instance, strictly ascending by path
pub record AreLiterals (instance : Instance) (literals : List Literal) : Type 0 where
  pub in_range : All (IsLiteral instance) literals
  pub ascending : AllPairs (λ a b. a.path < b.path) literals

-- a list has all literals of another
abbrev pub HasAll : List Literal → List Literal → Type 0
HasAll more literals = All (Contains more) literals

-- some literal is of the path
abbrev pub names : List Literal → ℕ → Bool
names literals path = list_any (λ a. a.path == path) literals

-- a plan has each of the literals
abbrev pub Extends : List ℕ → List Literal → Type 0
Extends plan literals = All (λ a. slice_index plan a.path ≡ a.choice) literals
