-- Lists that stand one after another in a flat one.
use Rattle.std.specs.Prelude.{◌≡◌, ℕ, ◌+◌, ◌<◌, ◌≤◌, List, length, slice_index, slice_range}
use Rattle.fapp_model.specs.declared.instance.Instance.{Instance}
use Rattle.fapp_tables.specs.Indexes.{neighbours_of, records_of}

-- the part of a number stands in the flat list from its start to that of the next number
pub record HasSlice {X : Type 0} (starts : List ℕ) (flat : List X) (number : ℕ)
    (part : List X) : Type 0 where
  pub inside : number + 1 < length starts
  pub forward : slice_index starts number ≤ slice_index starts (number + 1)
  pub within : slice_index starts (number + 1) ≤ length flat
  pub is : slice_range flat (slice_index starts number) (slice_index starts (number + 1)) ≡ part

-- the neighbours of each path stand one after another, and so do the records of each path and
-- neighbour, by the neighbour's place among all
pub record AreIndexes (instance : Instance)
    (starts neighbours firsts positions : List ℕ) : Type 0 where
  pub neighbours_at : (path : ℕ) → path < length instance.paths →
      HasSlice starts neighbours path (neighbours_of instance path)
  pub records_at : (path place : ℕ) → path < length instance.paths →
      place < length (neighbours_of instance path) →
      HasSlice firsts positions (slice_index starts path + place)
      (records_of instance path (slice_index (neighbours_of instance path) place))
