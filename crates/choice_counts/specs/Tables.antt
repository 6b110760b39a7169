-- The tallies of all neighbours at a level.
use Rattle.std.specs.Prelude.{◌≡◌, ℕ, ◌<◌, List, [], length, slice_index, slice_index_or}
use Rattle.fapp_model.specs.declared.instance.Instance.{Instance}
use Rattle.fapp_tables.specs.Indexes.{neighbours_of}
use Rattle.choice_counts.specs.declared.breaks.TheConstants.{NO_REACH}
use Rattle.choice_counts.specs.declared.fill.PairCells.{PairCells}
use Rattle.choice_counts.specs.Links.{IsPairCells}

-- an instance, and the level that its tallies are of
pub record TallyState : Type 0 where
  pub instance : Instance
  pub level : ℕ

abbrev pub table_at : Instance → ℕ → TallyState
table_at instance level = record { instance = instance; level = level }

abbrev pub no_pair_cells : PairCells
no_pair_cells = record { cells = []; far = NO_REACH }

abbrev pub pair_cells_at : List PairCells → ℕ → PairCells
pair_cells_at links place = slice_index_or links place no_pair_cells

-- a link for each neighbour of a path
pub record AreLinksOf (instance : Instance) (level path : ℕ) (links : List PairCells) : Type 0 where
  pub count : length links ≡ length (neighbours_of instance path)
  pub each : (place : ℕ) → place < length (neighbours_of instance path) →
      IsPairCells instance level path (slice_index (neighbours_of instance path) place)
      (pair_cells_at links place)

abbrev pub links_of : List (List PairCells) → ℕ → List PairCells
links_of table path = slice_index_or table path []

-- a link for each path and neighbour
pub record ArePairCells (instance : Instance) (level : ℕ)
    (table : List (List PairCells)) : Type 0 where
  pub count : length table ≡ length instance.paths
  pub each : (path : ℕ) → path < length instance.paths →
      AreLinksOf instance level path (links_of table path)

-- as many links as neighbours, for each of so many paths
pub record HasLinks (instance : Instance) (table : List (List PairCells)) (paths : ℕ) : Type 0 where
  pub count : length table ≡ paths
  pub each : (path : ℕ) → path < paths → length (links_of table path)
      ≡ length (neighbours_of instance path)
