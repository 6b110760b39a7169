-- What a link of two neighbouring paths tells of their choices' tallies.
use Rattle.std.specs.Prelude.{◌≡◌, ◌⊎◌, ℕ, ◌<◌, ◌≤◌, Bool, length}
use Rattle.fapp_model.specs.declared.instance.Instance.{Instance}
use Rattle.choice_counts.specs.declared.breaks.TheConstants.{NO_REACH}
use Rattle.choice_counts.specs.declared.fill.PairCells.{PairCells}
use Rattle.choice_counts.specs.Cells.{AreCells, AreWhole, cell_at, start_of, tally_in}
use Rattle.choice_counts.specs.Distances.{tally_apart}

-- its cells have the tallies, of each distance where there are any; from its far distance on
-- nothing is counted
pub record IsPairCells (instance : Instance) (level path other : ℕ)
    (link : PairCells) : Type 0 where
  pub cells : AreCells instance level path other link.cells
  pub whole : 0 < length link.cells → AreWhole link.cells
  pub far : (same : Bool) (d : ℕ) → link.far ≤ d → d < NO_REACH →
      tally_apart instance level path other same d ≡ 0

-- the tally of a distance, which is far, or has a cell
abbrev pub IsFound : PairCells → ℕ → Bool → ℕ → Type 0
IsFound link d same tally = ((link.far ≤ d) × ((d < NO_REACH) × (tally ≡ 0)))
    ⊎ ((place : ℕ) × (place < length link.cells) × (start_of link.cells place ≤ d)
    × (d < (cell_at link.cells place).reach) × (tally ≡ tally_in (cell_at link.cells place) same))
