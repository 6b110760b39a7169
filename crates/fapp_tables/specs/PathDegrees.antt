-- Paths by their number of records.
use Rattle.std.specs.Prelude.{◌≡◌, ◌⊎◌, ℕ, ◌<◌, ◌≤◌, List, length, map}
use Rattle.std.specs.List.{range_with_len}
use Rattle.fapp_model.specs.declared.instance.Instance.{Instance}
use Rattle.fapp_model.specs.search.WorkOrder.{degree}
use Rattle.fapp_tables.specs.declared.order.Place.{Place}

-- a path with its number of records
abbrev pub place_of : Instance → ℕ → Place
place_of instance path = record { degree = record { 0 = degree instance path }; path = path }

-- the places of all paths, as the paths stand
abbrev pub all_places : Instance → List Place
all_places instance = map (place_of instance) (range_with_len 0 (length instance.paths))

-- how many records name each path
abbrev pub all_degrees : Instance → List ℕ
all_degrees instance = map (degree instance) (range_with_len 0 (length instance.paths))

-- fewer records name the second path, or as many and it doesn't stand earlier
abbrev pub IsPlannedBefore : Place → Place → Type 0
IsPlannedBefore a b = (b.degree.0 < a.degree.0) ⊎ ((a.degree.0 ≡ b.degree.0) × (a.path ≤ b.path))
