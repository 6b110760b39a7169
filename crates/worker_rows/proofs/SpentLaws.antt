-- What spent jobs and no log come to.
use Rattle.std.proofs.Common.{◌≡◌, ◌≢◌, ℕ, ◌+◌, ◌<◌, ◌≤◌, List, [], length, replicate, set, get_or, All, AllPairs, IsTrue, Option, Some, None, refl, sym, ap, ◌∙◌, subst, ⊎_elim, arith}
use Rattle.std.proofs.lemmas.Bool.{cases_eq}
use Rattle.std.proofs.lemmas.List.{get_or-replicate, get_or-set_other, get_or-set_same, length-replicate, length-set}
use Rattle.std.proofs.lemmas.List.Elements.{All-from_get_or, All-nil}
use Rattle.fapp_model.specs.declared.instance.Instance.{Instance}
use Rattle.fapp_model.specs.declared.tag.Tag.{Tag}
use Rattle.fapp_model.specs.Levels.{levels_of}
use Rattle.fapp_model.specs.Tags.{triple_from}
use Rattle.fapp_model.specs.search.Jobs.{job_count}
use Rattle.cert_lines.specs.declared.answer.Verdict.{Verdict}
use Rattle.cert_lines.specs.WellFormed.{is_shown}
use Rattle.arc_levels.specs.Outside.{IsRootTag}
use Rattle.search_log.specs.declared.line.Ref.{Ref}
use Rattle.search_log.specs.Contents.{KnownRow}
use Rattle.search_log.specs.declared.job.Outcome.{Outcome}
use Rattle.search_log.specs.declared.job.Outcome.TheVariants.{Refuted, Moot, Spent}
use Rattle.search_log.specs.LogStates.{LogState}
use Rattle.fapp_plan.specs.Outcomes.{IsPlacedFor, Placed}
use Rattle.fapp_plan.specs.VerdictRule.{IsVerdictOf}
use Rattle.merge_laws.specs.Conditions.{IsMergeable}
use Rattle.fapp_plan.specs.Shown.{IsPut, IsRefutedBy}
use Rattle.search_log.specs.GoodLogs.{AreGoodLogs, IsBare, IsHomeRow}
use Rattle.worker_rows.specs.SpentJobs.{AreSpent}

-- the first jobs are spent, and the others have no outcome
pub record AreSpentTo (count n : ℕ) (outcomes : List Placed) : Type 0 where
  pub whole : length outcomes ≡ count
  pub each : (id : ℕ) → id < n → get_or outcomes id None ≡ Some (0, Spent)
  pub open_from : (id : ℕ) → n ≤ id → id < count → get_or outcomes id None ≡ None

pub none-spent : (count : ℕ) (outcomes : List Placed) → outcomes ≡ replicate count None → AreSpentTo count 0 outcomes
none-spent count outcomes is = record {
  whole = ap length is ∙ length-replicate count None;
  each = λ id l. absurd (omega arith);
  open_from = λ id l inside. ap (λ xs. get_or xs id None) is ∙ get_or-replicate count id None None inside;
}

pub one-spent : (count n : ℕ) (outcomes more : List Placed) → n < count → AreSpentTo count n outcomes → more ≡ set outcomes n (Some (0, Spent)) → AreSpentTo count (n + 1) more
one-spent count n outcomes more inside before is = record {
  whole = ap length is ∙ (length-set outcomes n (Some (0, Spent)) ∙ before.whole);
  each = λ id l. ap (λ xs. get_or xs id None) is ∙ ⊎_elim
      (λ (same : id ≡ n). subst (λ k. get_or (set outcomes n (Some (0, Spent))) k None ≡ Some (0, Spent)) (sym same) (get_or-set_same outcomes n (Some (0, Spent)) None (omega (arith, before.whole))))
      (λ (apart : id ≡ n → ⊥). get_or-set_other outcomes n id (Some (0, Spent)) None apart ∙ before.each id (omega arith))
      (cases_eq id n);
  open_from = λ id l low. ap (λ xs. get_or xs id None) is
      ∙ (get_or-set_other outcomes n id (Some (0, Spent)) None (λ same. omega arith) ∙ before.open_from id (omega arith) low);
}

module _ (outcomes : List Placed) (count : ℕ) (spent : AreSpent count outcomes) where
  all-spent : (P : Placed → Type 0) → P (Some (0, Spent)) → All P outcomes
  all-spent P h = All-from_get_or P outcomes None (λ id l. subst P (sym (spent.each id (omega (arith, spent.whole)))) h)

  pub spent-tags : (instance : Instance) → All (IsPlacedFor instance) outcomes
  spent-tags instance = all-spent (IsPlacedFor instance) tt

  pub spent-put : All IsPut outcomes
  spent-put = all-spent IsPut tt

IsSpentOutcome : Outcome → Type 0
IsSpentOutcome (Refuted line tag) = ⊥
IsSpentOutcome (Moot seen) = ⊥
IsSpentOutcome Spent = Unit {0}

IsSpent : Placed → Type 0
IsSpent None = ⊥
IsSpent (Some placed) = IsSpentOutcome placed.1

no-refuted : (spent : Placed) (log : ℕ) (line : Ref) (tag : Tag) → spent ≡ Some (0, Spent) → spent ≡ Some (log, Refuted line tag) → ⊥
unfolding IsSpent IsSpentOutcome
no-refuted spent log line tag is other = subst IsSpent other (subst IsSpent (sym is) (tt {0}))

-- no log and spent jobs may be merged
pub spent-mergeable : (instance : Instance) (split : ℕ) (logs : List LogState) (outcomes : List Placed) (word root : ℕ) (verdict : Verdict) → logs ≡ [] → AreSpent (job_count instance split) outcomes →
    IsTrue (is_shown (levels_of instance) (triple_from word)) → IsRootTag instance (triple_from root) → IsVerdictOf instance split outcomes word root verdict →
    IsMergeable instance split logs outcomes word verdict
spent-mergeable instance split logs outcomes word root verdict none spent shown root_is rule = subst (λ these. IsMergeable instance split these outcomes word verdict) (sym none) (record {
  rows = [];
  logs_are = record {
    good = λ k d l. absurd (omega arith);
    home = λ k d l. absurd (omega arith);
    once = λ i j d before l. absurd (omega arith);
    bare = λ k d l. absurd (omega arith);
  };
  outcomes_are = record {
    count = spent.whole;
    put = spent-put outcomes (job_count instance split) spent;
    tags = spent-tags outcomes (job_count instance split) spent instance;
    refuted = λ id log line tag l named. absurd (no-refuted (get_or outcomes id None) log line tag (spent.each id l) named);
  };
  ruled = record { shown = shown; root = root; root_is = root_is; rule = rule };
})
