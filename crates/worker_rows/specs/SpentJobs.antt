-- Outcomes where all jobs are spent.
use Rattle.std.specs.Prelude.{◌≡◌, ℕ, ◌<◌, List, length, slice_index_or, Some, None}
use Rattle.search_log.specs.declared.job.Outcome.TheVariants.{Spent}
use Rattle.fapp_plan.specs.Outcomes.{Placed}

pub record AreSpent (count : ℕ) (outcomes : List Placed) : Type 0 where
  pub whole : length outcomes ≡ count
  pub each : (id : ℕ) → id < count → slice_index_or outcomes id None ≡ Some (0, Spent)
