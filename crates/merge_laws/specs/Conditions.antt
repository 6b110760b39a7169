-- What logs, outcomes and a verdict have to meet to be merged.
use Rattle.std.specs.Prelude.{ℕ, max, List, All, IsTrue}
use Rattle.fapp_model.specs.declared.instance.Instance.{Instance}
use Rattle.fapp_model.specs.Levels.{levels_of}
use Rattle.fapp_model.specs.Tags.{triple_from}
use Rattle.cert_lines.specs.declared.answer.Verdict.{Verdict}
use Rattle.cert_lines.specs.declared.answer.Line.{Line}
use Rattle.cert_lines.specs.WellFormed.{IsLine, is_shown}
use Rattle.accept_laws.specs.Lines.{AreGood}
use Rattle.arc_levels.specs.Outside.{IsRootTag}
use Rattle.search_log.specs.Contents.{KnownRow}
use Rattle.search_log.specs.LogStates.{LogState}
use Rattle.fapp_plan.specs.Outcomes.{Placed}
use Rattle.fapp_plan.specs.VerdictRule.{IsVerdictOf}
use Rattle.merge_laws.specs.GoodLogs.{AreGoodLogsAfter}
use Rattle.search_log.specs.GoodLogs.{AreGoodLogs}
use Rattle.merge_laws.specs.OldRoots.{old_root}
use Rattle.fapp_plan.specs.Shown.{AreOutcomes}

-- the verdict is the rule's, for the outcomes, a bound that may be shown and the arcs' root tag
pub record IsRuled (instance : Instance) (split : ℕ) (outcomes : List Placed) (word : ℕ)
    (verdict : Verdict) : Type 0 where
  pub shown : IsTrue (is_shown (levels_of instance) (triple_from word))
  pub root : ℕ
  pub root_is : IsRootTag instance (triple_from root)
  pub rule : IsVerdictOf instance split outcomes word root verdict

-- the verdict is the rule's, for the outcomes, a bound that may be shown and the greater of the
-- arcs' root tag and the greatest tag of an old root line
pub record IsRuledAfter (instance : Instance) (split : ℕ) (old : List Line) (outcomes : List Placed)
    (word : ℕ) (verdict : Verdict) : Type 0 where
  pub shown : IsTrue (is_shown (levels_of instance) (triple_from word))
  pub root : ℕ
  pub root_is : IsRootTag instance (triple_from root)
  pub rule : IsVerdictOf instance split outcomes word (max root (old_root old)) verdict

-- old lines that are well formed and good
pub record AreOld (instance : Instance) (old : List Line) : Type 0 where
  pub formed : All (IsLine instance) old
  pub good : AreGood instance old

-- Old lines that are well formed and good; logs that are good over the rows that they call home and
-- the placed ones; outcomes of all jobs, which the logs and these rows show; and the verdict that
-- follows.
pub record IsMergeableAfter (instance : Instance) (split : ℕ) (old : List Line)
    (placed : List (ℕ × ℕ)) (logs : List LogState) (outcomes : List Placed) (word : ℕ)
    (verdict : Verdict) : Type 0 where
  pub old_are : AreOld instance old
  pub rows : List KnownRow
  pub logs_are : AreGoodLogsAfter instance old placed rows logs
  pub outcomes_are : AreOutcomes instance split rows logs outcomes
  pub ruled : IsRuledAfter instance split old outcomes word verdict

-- Logs that are good over the rows that they call home, each row home once and each Count line
-- without references; outcomes of all jobs, which the logs and the rows show; and the verdict that
-- follows.
pub record IsMergeable (instance : Instance) (split : ℕ) (logs : List LogState)
    (outcomes : List Placed) (word : ℕ) (verdict : Verdict) : Type 0 where
  pub rows : List KnownRow
  pub logs_are : AreGoodLogs instance rows logs
  pub outcomes_are : AreOutcomes instance split rows logs outcomes
  pub ruled : IsRuled instance split outcomes word verdict
