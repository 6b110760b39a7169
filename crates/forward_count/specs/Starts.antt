-- Rows before anything is counted.
use Rattle.std.specs.Prelude.{◌≡◌, ℕ, ◌<◌, List, length}
use Rattle.fapp_model.specs.declared.instance.Instance.{Instance}
use Rattle.fapp_model.specs.Assignments.{count_at}
use Rattle.choice_counts.specs.declared.rows.PathTallies.{PathTallies}
use Rattle.choice_counts.specs.Tallies.{tallies_at}

-- a tally for each choice of so many paths
pub record AreShaped (instance : Instance) (rows : List PathTallies) (paths : ℕ) : Type 0 where
  pub count : length rows ≡ paths
  pub tallies : (path : ℕ) → path < paths →
      length (tallies_at rows path).tallies ≡ count_at instance path
