-- What is known of all jobs by their outcomes, the logs that show them, and the least cost that was
-- found.
use Rattle.std.specs.Prelude.{◌≡◌, ◌⊎◌, ℕ, ◌<◌, ◌≤◌, List, length, slice_index_or, All, Contains, Option, Some, None}
use Rattle.fapp_model.specs.declared.instance.Instance.{Instance}
use Rattle.fapp_model.specs.search.Jobs.{job_count}
use Rattle.fapp_model.specs.Tags.{code_of}
use Rattle.search_log.specs.Contents.{KnownRow}
use Rattle.search_log.specs.declared.log.KeptPlan.{KeptPlan}
use Rattle.search_log.specs.Logs.{empty_log}
use Rattle.search_log.specs.LogStates.{LogState}
use Rattle.settle_laws.specs.Worlds.{IsKeptRight}
use Rattle.fapp_plan.specs.Outcomes.{Placed}
use Rattle.fapp_plan.specs.Plans.{Split}
use Rattle.fapp_plan.specs.VerdictRule.{top_code}
use Rattle.fapp_workers.specs.Outcomes.{IsJobSettledBy}

abbrev pub log_at : List LogState → ℕ → LogState
log_at logs place = slice_index_or logs place empty_log

-- the outcome of the job of a number, by the log at its place
abbrev pub IsPlacedBy : Split → ℕ → List KnownRow → List LogState → ℕ → ℕ → Placed → Type 0
IsPlacedBy split fuel rows logs word id None = ⊥
IsPlacedBy split fuel rows logs word id (Some placed) =
    (placed.0 < length logs) × IsJobSettledBy split fuel id rows (log_at logs placed.0).lines word
    placed.1

-- each job has an outcome, which a log shows
pub record AreSettled (split : Split) (fuel : ℕ) (rows : List KnownRow) (logs : List LogState)
    (word : ℕ) (outcomes : List Placed) : Type 0 where
  pub planned : length outcomes ≡ job_count split.instance split.split
  pub each : (id : ℕ) → id < job_count split.instance split.split →
      IsPlacedBy split fuel rows logs word id (slice_index_or outcomes id None)

-- nothing that is kept costs less
abbrev pub IsAtMostKept : ℕ → Option KeptPlan → Type 0
IsAtMostKept word None = Unit {0}
IsAtMostKept word (Some best) = word ≤ code_of best.cost

-- a log keeps an assignment of that cost
pub record KeepsCost (logs : List LogState) (word : ℕ) : Type 0 where
  pub log : LogState
  pub among : Contains logs log
  pub best : KeptPlan
  pub kept : log.best ≡ Some best
  pub cost : word ≡ code_of best.cost

-- the least cost that a log keeps, or the top tag where none keeps one; what is kept is an
-- assignment that meets the imperative records, with its cost
pub record IsLeastWord (instance : Instance) (logs : List LogState) (word : ℕ) : Type 0 where
  pub right : All (λ log. IsKeptRight instance log.best) logs
  pub low : All (λ log. IsAtMostKept word log.best) logs
  pub is : ((word ≡ top_code instance) × All (λ log. log.best ≡ None) logs) ⊎ KeepsCost logs word
