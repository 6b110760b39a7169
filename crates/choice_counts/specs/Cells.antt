-- Tallies by distance, in cells that follow one another.
use Rattle.std.specs.Prelude.{◌≡◌, ◌⊎◌, ℕ, zero, suc, ◌-◌, ◌<◌, ◌≤◌, Bool, List, ◌∷◌, [], ◌++◌, length, slice_index_or, slice_set, if◌then◌else◌}
use Rattle.fapp_model.specs.declared.instance.Instance.{Instance}
use Rattle.choice_counts.specs.declared.breaks.TheConstants.{NO_REACH}
use Rattle.choice_counts.specs.declared.cells.Cell.{Cell}
use Rattle.choice_counts.specs.Distances.{tally_apart}

abbrev pub no_cell : Cell
no_cell = record { reach = 0; same = 0; other = 0 }

abbrev pub cell_at : List Cell → ℕ → Cell
cell_at cells place = slice_index_or cells place no_cell

-- the least distance of the cell at a place: where the one before ends
abbrev pub start_of : List Cell → ℕ → ℕ
start_of cells zero = 0
start_of cells (suc place) = (cell_at cells place).reach

abbrev pub end_of_cells : List Cell → ℕ
end_of_cells cells = start_of cells (length cells)

abbrev pub tally_in : Cell → Bool → ℕ
tally_in cell same = if same then cell.same else cell.other

-- a cell has the tallies of each distance from a start on, below its reach
abbrev pub IsCell : Instance → ℕ → ℕ → ℕ → ℕ → Cell → Type 0
IsCell instance level path other start cell = (same : Bool) (d : ℕ) → start ≤ d → d < cell.reach →
    tally_in cell same ≡ tally_apart instance level path other same d

-- the tallies of two paths at a level, as far as the cells reach
abbrev pub AreCells : Instance → ℕ → ℕ → ℕ → List Cell → Type 0
AreCells instance level path other cells = (place : ℕ) → place < length cells →
    IsCell instance level path other (start_of cells place) (cell_at cells place)

-- each distance has a cell
pub record AreWhole (cells : List Cell) : Type 0 where
  pub some : 0 < length cells
  pub last : end_of_cells cells ≡ NO_REACH

-- a cell with the reach of another
abbrev pub reaching : Cell → ℕ → Cell
reaching cell reach = record { reach = reach; same = cell.same; other = cell.other }

-- a cell is added behind the others, or the last of them, which has the same tallies, reaches as
-- far as it
abbrev pub AddsCell : List Cell → Cell → List Cell → Type 0
AddsCell old cell new = (new ≡ old ++ cell ∷ [])
    ⊎ ((0 < length old) × (new ≡ slice_set old (length old - 1) cell)
    × (reaching (cell_at old (length old - 1)) cell.reach ≡ cell))

-- from the distance on, where the last cell starts, nothing is counted; none if that one counts
-- something
abbrev pub IsFar : List Cell → ℕ → Type 0
IsFar cells distance = (distance ≡ NO_REACH)
    ⊎ ((distance ≡ start_of cells (length cells - 1))
    × (((cell_at cells (length cells - 1)).same ≡ 0)
    × ((cell_at cells (length cells - 1)).other ≡ 0)))
