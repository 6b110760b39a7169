-- Which literals of one list another has.
use Rattle.std.specs.Prelude.{Bool, not, ◌&&◌, ◌||◌, ◌==◌, nat_le, List, count_by}
use Rattle.std.specs.List.{list_any, list_all}
use Rattle.fapp_model.specs.declared.literal.Literal.{Literal}
use Rattle.fapp_model.specs.search.Partials.{names}

-- one choice of one path
abbrev pub is_same : Literal → Literal → Bool
is_same a b = (a.path == b.path) && (a.choice == b.choice)

-- a list has a literal
abbrev pub has : List Literal → Literal → Bool
has literals a = list_any (λ b. is_same b a) literals

-- a list has each literal of another
abbrev pub has_all : List Literal → List Literal → Bool
has_all literals cited = list_all (has literals) cited

-- a list has each literal of another but at most one, and that one is of a path that it doesn't
-- name
abbrev pub has_all_but_one : List Literal → List Literal → Bool
has_all_but_one literals cited = list_all (λ a. has literals a || not (names literals a.path)) cited
    && nat_le (count_by (λ a. not (has literals a)) cited) 1
