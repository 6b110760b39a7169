-- The test of a partial assignment: whether it is dead by the cases, where a test says what is
-- excluded.
use Rattle.std.specs.Prelude.{ℕ, Bool, not, ◌&&◌, ◌||◌, ◌==◌, nat_lt, nat_le, List, length, fold, Option, Some, None, is_none, if◌then◌else◌}
use Rattle.std.specs.List.{list_any, range_with_len}
use Rattle.fapp_model.specs.declared.instance.Instance.{Instance}
use Rattle.fapp_model.specs.declared.literal.Literal.{Literal}
use Rattle.fapp_model.specs.declared.triple.Triple.{Triple}
use Rattle.fapp_model.specs.Assignments.{count_at}
use Rattle.fapp_model.specs.search.Clashes.{clashes_with}
use Rattle.fapp_model.specs.search.Pairs.{Pair, limit_of}
use Rattle.fapp_model.specs.search.Partials.{literal, names}
use Rattle.fapp_model.specs.Tags.{has_limit, mode_level}
use Rattle.fapp_model.specs.search.Weights.{added_pair, pair_with}

abbrev pub no_pair : Pair
no_pair = record { v = 0; s = 0 }

-- the order of pairs, as a test
abbrev pub is_pair_at_most : Pair → Pair → Bool
is_pair_at_most p q = nat_lt p.v q.v || ((p.v == q.v) && nat_le p.s q.s)

-- the lesser of a pair, where one was found, and another
abbrev pub lesser : Option Pair → Pair → Pair
lesser None q = q
lesser (Some p) q = if is_pair_at_most p q then p else q

-- a choice is not excluded, and has no hard-bad record between it and the literals
abbrev pub remains : (Literal → Bool) → Instance → ℕ → List Literal → Literal → Bool
remains excluded instance level literals a =
    not (excluded a) && not (clashes_with instance level literals a)

-- the least pair that a remaining choice of a path adds, found choice by choice; none where no
-- choice remains
abbrev pub with_choice : (Literal → Bool) → Instance → ℕ → List Literal → ℕ → Option Pair → ℕ →
    Option Pair
with_choice excluded instance level literals path found index =
    if remains excluded instance level literals (literal path index)
    then Some (lesser found (added_pair instance level literals (literal path index)))
    else found

unfoldable pub least_pair : (Literal → Bool) → Instance → ℕ → List Literal → ℕ → Option Pair
least_pair excluded instance level literals path =
    fold (with_choice excluded instance level literals path) None
    (range_with_len 0 (count_at instance path))

abbrev pub or_no_pair : Option Pair → Pair
or_no_pair None = no_pair
or_no_pair (Some p) = p

-- a record between two of the literals is hard-bad
abbrev pub has_clash : Instance → ℕ → List Literal → Bool
has_clash instance level literals = list_any (clashes_with instance level literals) literals

-- a path that no literal names has no choice left
abbrev pub is_stuck : (Literal → Bool) → Instance → ℕ → List Literal → ℕ → Bool
is_stuck excluded instance level literals path =
    not (names literals path) && is_none (least_pair excluded instance level literals path)

-- the literals' pairs and the least that each further path adds come to the tag's limit
abbrev pub is_over : (Literal → Bool) → Instance → Triple → List Literal → Bool
is_over excluded instance t literals = has_limit t && is_pair_at_most (limit_of t)
    (pair_with instance (mode_level t) literals
    (λ path. or_no_pair (least_pair excluded instance (mode_level t) literals path)))

unfoldable pub judged_dead : (Literal → Bool) → Instance → Triple → List Literal → Bool
judged_dead excluded instance t literals =
    has_clash instance (mode_level t) literals || (list_any excluded literals
    || (list_any (is_stuck excluded instance (mode_level t) literals)
    (range_with_len 0 (length instance.paths))
    || is_over excluded instance t literals))
