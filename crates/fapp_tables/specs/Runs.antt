-- Runs: in a list of links in order, those of one pair of paths stand together.
use Rattle.std.specs.Prelude.{◌≡◌, ℕ, ◌+◌, ◌-◌, ◌<◌, ◌≤◌, Bool, not, ◌||◌, ◌==◌, List, [], ◌∷◌, ◌++◌, length, map, filter, slice_index, slice_index_or}
use Rattle.std.specs.List.{AllWithin, range_with_len}
use Rattle.fapp_tables.specs.declared.links.Side.{Side}
use Rattle.fapp_tables.specs.declared.runs.Runs.{Runs as RunsOfLinks}

-- what stands past the end of a list of links
abbrev pub no_side : Side
no_side = record { path = 0; other = 0; position = 0 }

abbrev pub side_at : List Side → ℕ → Side
side_at links place = slice_index_or links place no_side

-- the link before a place is none of the same pair of paths
abbrev pub begins_run : List Side → ℕ → Bool
begins_run links place =
    (place == 0) || (not ((side_at links (place - 1)).path == (side_at links place).path)
    || not ((side_at links (place - 1)).other == (side_at links place).other))

-- the places at which runs begin
abbrev pub run_places : List Side → List ℕ
run_places links = filter (begins_run links) (range_with_len 0 (length links))

-- the first link of each run, and its place
pub record AreRuns (links : List Side) (runs : RunsOfLinks) : Type 0 where
  pub firsts : runs.firsts.items ≡ run_places links ++ length links ∷ []
  pub heads : runs.heads.items ≡ map (side_at links) (run_places links)

-- so many of the links are of paths before a path, and stand before the others
pub record IsStart (heads : List Side) (path start : ℕ) : Type 0 where
  pub within : start ≤ length heads
  pub before : AllWithin (λ head. head.path < path) heads 0 start
  pub behind : AllWithin (λ head. path ≤ head.path) heads start (length heads)

-- where each of so many paths starts, and where one more would
pub record AreStarts (heads : List Side) (paths : ℕ) (starts : List ℕ) : Type 0 where
  pub whole : length starts ≡ paths + 1
  pub each : (path : ℕ) → path ≤ paths → IsStart heads path (slice_index starts path)
