-- What a literal adds to the rows of all paths, and takes away again.
use Rattle.std.specs.Prelude.{ℕ, ◌+◌, ◌-◌, ◌<◌, ◌≤◌, ◌^◌, Bool, true, false, List, length, map, if◌then◌else◌}
use Rattle.std.specs.List.{range_with_len}
use Rattle.fapp_model.specs.declared.instance.Instance.{Instance}
use Rattle.fapp_model.specs.declared.literal.Literal.{Literal}
use Rattle.fapp_model.specs.search.Clashes.{shares_record}
use Rattle.fapp_model.specs.search.Partials.{literal}
use Rattle.choice_counts.specs.declared.rows.PathTallies.{PathTallies}
use Rattle.choice_counts.specs.Counts.{pair_tally}
use Rattle.choice_counts.specs.Tallies.{tallies_at, tallies_by, tally_at}

-- a tally with a pair's taken away, or added
abbrev pub moved : Bool → ℕ → ℕ → ℕ
moved true tally pair = tally - pair
moved false tally pair = tally + pair

-- the tallies of a path with what a literal adds to them, taken away or added
abbrev pub tallies_with : Bool → Instance → ℕ → Literal → ℕ → List ℕ → List ℕ
tallies_with taking instance level a other tallies =
    map (λ index. moved taking (tally_at tallies index)
    (pair_tally instance level (literal other index) a)) (range_with_len 0 (length tallies))

-- the rows of all paths, where those that share a record with the literal's path get what it adds
abbrev pub rows_with : Bool → Instance → ℕ → Literal → List PathTallies → List PathTallies
rows_with taking instance level a rows = map
    (λ other. if shares_record instance a.path other
    then tallies_by (tallies_with taking instance level a other (tallies_at rows other).tallies)
    else tallies_at rows other)
    (range_with_len 0 (length instance.paths))

-- a pair's tally can be taken away, or added
abbrev pub CanMove : Bool → ℕ → ℕ → Type 0
CanMove true tally pair = pair ≤ tally
CanMove false tally pair = tally < 2 ^ 62

-- each tally of a path can change by what a literal adds
abbrev pub CanMoveRow : Bool → Instance → ℕ → Literal → ℕ → List ℕ → Type 0
CanMoveRow taking instance level a other tallies = (index : ℕ) → index < length tallies →
    CanMove taking (tally_at tallies index) (pair_tally instance level (literal other index) a)

-- each tally of all paths
abbrev pub CanMoveAll : Bool → Instance → ℕ → Literal → List PathTallies → Type 0
CanMoveAll taking instance level a rows = (other : ℕ) → other < length instance.paths →
    CanMoveRow taking instance level a other (tallies_at rows other).tallies
