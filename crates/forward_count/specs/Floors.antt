-- A bound below the tallies of a path.
use Rattle.std.specs.Prelude.{ℕ, ◌<◌, ◌≤◌, List, length}
use Rattle.choice_counts.specs.declared.rows.TheConstants.{NO_TALLY}
use Rattle.choice_counts.specs.Tallies.{tally_at}

-- no tally is below it
pub record IsFloor (tallies : List ℕ) (floor : ℕ) : Type 0 where
  pub each : (index : ℕ) → index < length tallies → floor ≤ tally_at tallies index
  pub small : floor ≤ NO_TALLY
