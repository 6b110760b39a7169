-- What is counted for the paths without a literal, by slots: one for each path, with its choice
-- where it has a literal.
use Rattle.std.specs.Prelude.{◌≡◌, ℕ, ◌<◌, Option, List, length, sum_by, All, if◌then◌else◌}
use Rattle.std.specs.List.{range_with_len}
use Rattle.std.specs.Option.{is_some}
use Rattle.fapp_model.specs.declared.instance.Instance.{Instance}
use Rattle.fapp_model.specs.Assignments.{count_at}
use Rattle.nogood.specs.Partials.{choice_given}
use Rattle.choice_counts.specs.declared.rows.PathTallies.{PathTallies}
use Rattle.choice_counts.specs.declared.totals.OpenPaths.{OpenPaths}
use Rattle.choice_counts.specs.Tallies.{least_of_tallies, least_part, tallies_at, stuck_part}

-- the sum of a number for each path without a literal, by its least tally
abbrev pub open_sum : (ℕ → ℕ) → List (Option ℕ) → List PathTallies → ℕ
open_sum f slots rows =
    sum_by (λ path. if is_some (choice_given slots path) then 0 else f (tallies_at rows path).least)
    (range_with_len 0 (length slots))

pub record AreOpenPaths (slots : List (Option ℕ)) (rows : List PathTallies)
    (open_paths : OpenPaths) : Type 0 where
  pub stuck : open_paths.stuck ≡ open_sum stuck_part slots rows
  pub least : open_paths.least ≡ open_sum least_part slots rows

-- a row for each path, with a tally for each choice and the least of them
pub record AreRows (instance : Instance) (rows : List PathTallies) : Type 0 where
  pub count : length rows ≡ length instance.paths
  pub tallies : (path : ℕ) → path < length instance.paths →
      length (tallies_at rows path).tallies ≡ count_at instance path
  pub least : All (λ row. row.least ≡ least_of_tallies row.tallies) rows
