-- What is known of a job by its outcome and its ticks.
use Rattle.std.specs.Prelude.{ℕ, ◌+◌, ◌<◌, ◌≤◌, min, List}
use Rattle.fapp_model.specs.declared.instance.Instance.{Instance}
use Rattle.fapp_model.specs.declared.literal.Literal.{Literal}
use Rattle.fapp_model.specs.InstanceTags.{IsTagFor}
use Rattle.fapp_model.specs.search.Jobs.{job_level, job_prefix, target}
use Rattle.fapp_model.specs.search.Tries.{IsTries}
use Rattle.search_log.specs.declared.line.LogLine.{LogLine}
use Rattle.search_log.specs.Contents.{KnownRow}
use Rattle.search_log.specs.declared.job.Outcome.{Outcome}
use Rattle.search_log.specs.declared.job.Outcome.TheVariants.{Refuted, Moot, Spent}
use Rattle.settle_laws.specs.Founds.{IsRefuted}
use Rattle.settle_laws.specs.Levels.{level_code}
use Rattle.fapp_plan.specs.Plans.{Split}

-- a job has more tries than so much fuel
abbrev pub IsBeyond : Instance → ℕ → List Literal → ℕ → Type 0
IsBeyond instance level prefix fuel =
    (tries : ℕ) → IsTries instance (target level) prefix tries → fuel < tries

-- With the least cost that was found, the word. Refuted: the tag is at least the lesser of the word
-- and the level's target, and a line or a row within the prefix says so. Moot: what was seen is at
-- least the word, and at most the level. Spent: the job has more tries than it had fuel.
abbrev pub IsPrefixSettledBy : Instance → ℕ → List Literal → ℕ → List KnownRow → List LogLine → ℕ →
    Outcome → Type 0
IsPrefixSettledBy instance level prefix fuel rows lines word (Refuted line tag) =
    IsTagFor instance tag × (min (level_code (level + 1)) word ≤ tag.code)
    × IsRefuted instance rows lines prefix line tag.code
IsPrefixSettledBy instance level prefix fuel rows lines word (Moot seen) =
    (word ≤ seen.code) × (seen.code ≤ level_code level)
IsPrefixSettledBy instance level prefix fuel rows lines word Spent =
    IsBeyond instance level prefix fuel

-- the same of the job of a number
abbrev pub IsJobSettledBy : Split → ℕ → ℕ → List KnownRow → List LogLine → ℕ → Outcome → Type 0
IsJobSettledBy split fuel id =
    IsPrefixSettledBy split.instance (job_level split.instance id)
    (job_prefix split.instance split.split id) fuel

-- no more ticks than the fuel, and than the job's tries
pub record AreTicksOf (split : Split) (fuel id ticks : ℕ) : Type 0 where
  pub within : ticks ≤ fuel
  pub tried : (tries : ℕ) → IsTries split.instance (target (job_level split.instance id))
      (job_prefix split.instance split.split id) tries → ticks ≤ tries
