-- Rows that are published before the workers start.
use Rattle.std.specs.Prelude.{◌≡◌, ℕ, ◌<◌, List, length, slice_index_or, All}
use Rattle.fapp_model.specs.declared.instance.Instance.{Instance}
use Rattle.nogood.specs.declared.row.Row.{Row}
use Rattle.nogood_pool.specs.Pool.{IsPoolRow, content_of_row}

-- rows of literals of the instance, ascending, that are implied at their tags above (0, 0, 0)
abbrev pub ArePublishable : Instance → List Row → Type 0
ArePublishable instance rows = All (λ row. IsPoolRow instance (content_of_row row)) rows

-- each number below n with itself, ascending
pub record AreTwins (n : ℕ) (pairs : List (ℕ × ℕ)) : Type 0 where
  pub count : length pairs ≡ n
  pub each : (i : ℕ) (d : ℕ × ℕ) → i < n → slice_index_or pairs i d ≡ (i, i)
