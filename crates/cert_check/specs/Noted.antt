-- A table of the lines that delete others, as it is filled.
use Rattle.std.specs.Prelude.{◌≡◌, ℕ, ◌+◌, ◌<◌, ◌==◌, List, length, slice_index_or, if◌then◌else◌}
use Rattle.std.specs.List.{list_any}

-- a place is noted for each of some numbers that is one of the table's, which count from 1
pub record AreNoted (old new cites : List ℕ) (place : ℕ) : Type 0 where
  pub whole : length new ≡ length old
  pub each : (k : ℕ) → k < length old →
      slice_index_or new k 0 ≡ (if list_any (λ m. m == k + 1) cites then place
      else slice_index_or old k 0)
