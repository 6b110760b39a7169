-- One tally a choice, and rows of tallies.
use Rattle.std.specs.Prelude.{ℕ, min, nat_lt, List, [], slice_index_or, if◌then◌else◌}
use Rattle.std.specs.List.{fold}
use Rattle.choice_counts.specs.declared.rows.PathTallies.{PathTallies}
use Rattle.choice_counts.specs.declared.rows.TheConstants.{HARD, NO_TALLY}

abbrev pub tally_at : List ℕ → ℕ → ℕ
tally_at tallies index = slice_index_or tallies index 0

-- the least tally
unfoldable pub least_of_tallies : List ℕ → ℕ
least_of_tallies tallies = fold min NO_TALLY tallies

-- the row of some tallies
abbrev pub tallies_by : List ℕ → PathTallies
tallies_by tallies = record { tallies = tallies; least = least_of_tallies tallies }

abbrev pub no_tallies : PathTallies
no_tallies = tallies_by []

abbrev pub tallies_at : List PathTallies → ℕ → PathTallies
tallies_at rows path = slice_index_or rows path no_tallies

-- 1 for a path without a choice left, by its least tally
abbrev pub stuck_part : ℕ → ℕ
stuck_part least = if nat_lt least HARD then 0 else 1

-- the least tally of a path with a choice left
abbrev pub least_part : ℕ → ℕ
least_part least = if nat_lt least HARD then least else 0
