-- What the outcomes of jobs name, as logs and rows show it.
use Rattle.std.specs.Prelude.{◌≡◌, ℕ, ◌<◌, ◌≤◌, List, slice_index_or, Some, None, length, All}
use Rattle.fapp_model.specs.declared.instance.Instance.{Instance}
use Rattle.fapp_model.specs.declared.tag.Tag.{Tag}
use Rattle.fapp_model.specs.search.Jobs.{job_count, job_prefix}
use Rattle.fapp_model.specs.search.Partials.{HasAll}
use Rattle.search_log.specs.declared.line.LogLine.{LogLine}
use Rattle.search_log.specs.declared.line.Ref.{Ref}
use Rattle.search_log.specs.Contents.{Cites, Content, KnownRow}
use Rattle.search_log.specs.declared.job.Outcome.TheVariants.{Refuted}
use Rattle.fapp_plan.specs.Outcomes.{Placed, IsPlacedFor}
use Rattle.search_log.specs.GoodLogs.{lines_of, all_lines}
use Rattle.search_log.specs.LogStates.{LogState}

-- what a Refuted outcome names has literals within the job's prefix, and at least the outcome's tag
pub record IsRefutedBy (instance : Instance) (split : ℕ) (rows : List KnownRow)
    (logs : List (List LogLine)) (id log : ℕ) (line : Ref) (tag : Tag) : Type 0 where
  pub content : Content
  pub cites : Cites rows (lines_of logs log) line content
  pub within : HasAll (job_prefix instance split id) content.lits
  pub reaches : tag.code ≤ content.tag

-- so has that of each job's Refuted outcome
abbrev pub AreRefuted : Instance → ℕ → List KnownRow → List (List LogLine) → List Placed → Type 0
AreRefuted instance split rows logs outcomes =
    (id log : ℕ) (line : Ref) (tag : Tag) → id < job_count instance split →
    slice_index_or outcomes id None ≡ Some (log, Refuted line tag) →
    IsRefutedBy instance split rows logs id log line tag

abbrev pub IsPut : Placed → Type 0
IsPut None = ⊥
IsPut (Some placed) = Unit {0}

-- each job has an outcome, and what a Refuted one names shows it
pub record AreOutcomes (instance : Instance) (split : ℕ) (rows : List KnownRow)
    (logs : List LogState) (outcomes : List Placed) : Type 0 where
  pub count : length outcomes ≡ job_count instance split
  pub put : All IsPut outcomes
  pub tags : All (IsPlacedFor instance) outcomes
  pub refuted : AreRefuted instance split rows (all_lines logs) outcomes
