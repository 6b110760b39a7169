-- What is counted for literals, by the definitions; a test says what is within the arcs.
use Rattle.std.specs.Prelude.{ℕ, ◌+◌, ◌*◌, Bool, Option, Some, None, List, length, map, sum_by, if◌then◌else◌}
use Rattle.std.specs.List.{range_with_len}
use Rattle.fapp_model.specs.declared.instance.Instance.{Instance}
use Rattle.fapp_model.specs.declared.literal.Literal.{Literal}
use Rattle.fapp_model.specs.Assignments.{count_at}
use Rattle.fapp_model.specs.search.Clashes.{clashes}
use Rattle.fapp_model.specs.search.Partials.{literal}
use Rattle.fapp_model.specs.search.Weights.{added}
use Rattle.fapp_tables.specs.Measures.{both_between, coded_part}
use Rattle.choice_counts.specs.declared.rows.PathTallies.{PathTallies}
use Rattle.choice_counts.specs.declared.rows.TheConstants.{HARD}
use Rattle.choice_counts.specs.Tallies.{tallies_by}

-- 1 for a choice outside the arcs
abbrev pub outside_part : (Literal → Bool) → Literal → ℕ
outside_part arc a = if arc a then 0 else 1

-- 1 for two literals that clash
abbrev pub clash_part : Instance → ℕ → Literal → Literal → ℕ
clash_part instance level a b = if clashes instance level a b then 1 else 0

-- what a literal counts in a choice's tally
abbrev pub pair_tally : Instance → ℕ → Literal → Literal → ℕ
pair_tally instance level a b =
    clash_part instance level a b * HARD + both_between instance (coded_part level) a b

-- how many literals clash with a choice, one more where it is outside the arcs
abbrev pub hard_of : Instance → ℕ → (Literal → Bool) → List Literal → Literal → ℕ
hard_of instance level arc literals a =
    outside_part arc a + sum_by (clash_part instance level a) literals

-- a choice's tally
abbrev pub tally_of : Instance → ℕ → (Literal → Bool) → List Literal → Literal → ℕ
tally_of instance level arc literals a =
    hard_of instance level arc literals a * HARD + added instance (coded_part level) literals a

-- the tallies of a path
abbrev pub tallies_of : Instance → ℕ → (Literal → Bool) → List Literal → ℕ → List ℕ
tallies_of instance level arc literals path =
    map (λ index. tally_of instance level arc literals (literal path index))
    (range_with_len 0 (count_at instance path))

-- the rows of all paths
abbrev pub rows_of : Instance → ℕ → (Literal → Bool) → List Literal → List PathTallies
rows_of instance level arc literals =
    map (λ path. tallies_by (tallies_of instance level arc literals path))
    (range_with_len 0 (length instance.paths))

-- how many pairs of literals clash, each seen from both sides
abbrev pub clash_pairs : Instance → ℕ → List Literal → ℕ
clash_pairs instance level literals =
    sum_by (λ a. sum_by (clash_part instance level a) literals) literals

-- how many literals are outside the arcs
abbrev pub outsiders : (Literal → Bool) → List Literal → ℕ
outsiders arc literals = sum_by (outside_part arc) literals

-- a number of the literal in a path's slot; 0 where the path has none
abbrev pub slot_part : (Literal → ℕ) → ℕ → Option ℕ → ℕ
slot_part f path None = 0
slot_part f path (Some index) = f (literal path index)
