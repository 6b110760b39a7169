-- What the workers found meets what a verdict and a merged certificate ask for.
use Rattle.std.proofs.Common.{◌≡◌, ℕ, ◌+◌, ◌<◌, ◌≤◌, min, cond, is_some, List, [], length, get_or, All, Option, Some, None, sum, sum_by, count_by, refl, sym, ap, ◌∙◌, subst, arith}
use Rattle.std.specs.List.{range_with_len}
use Rattle.std.proofs.lemmas.List.{get_or-map, get_or_default}
use Rattle.fapp_model.specs.declared.tag.Tag.{Tag}
use Rattle.fapp_model.specs.Instances.{IsInstance}
use Rattle.fapp_model.specs.Tags.{triple_from}
use Rattle.fapp_model.specs.search.Jobs.{job_count, job_level, job_prefix, target}
use Rattle.fapp_model.specs.search.LineBound.{IsMostLines, choice_total, tree_size}
use Rattle.fapp_model.specs.search.Tries.{IsTries}
use Rattle.fapp_model.proofs.Sums.{range-sum-le, sum_by-same-members}
use Rattle.fapp_tables.proofs.PairLaws.{sum_by-positions}
use Rattle.cert_lines.specs.declared.answer.Verdict.{Verdict}
use Rattle.arc_levels.specs.Outside.{IsRootTag}
use Rattle.search_log.specs.declared.line.LogLine.{LogLine}
use Rattle.search_log.specs.declared.line.Ref.{Ref}
use Rattle.search_log.specs.Contents.{Cites, KnownRow}
use Rattle.search_log.specs.declared.job.Outcome.{Outcome}
use Rattle.search_log.specs.declared.job.Outcome.TheVariants.{Refuted, Moot, Spent}
use Rattle.search_log.specs.Logs.{empty_log}
use Rattle.search_log.specs.LogStates.{LogState}
use Rattle.fapp_plan.specs.Outcomes.{IsOutcomeFor, IsPlacedFor, Placed}
use Rattle.fapp_plan.specs.Plans.{Split}
use Rattle.fapp_plan.specs.VerdictRule.{IsVerdictOf}
use Rattle.merge_laws.specs.Conditions.{IsMergeable}
use Rattle.fapp_plan.specs.Shown.{AreOutcomes, IsPut, IsRefutedBy}
use Rattle.search_log.specs.GoodLogs.{AreGoodLogs, all_lines}
use Rattle.merge_laws.specs.MergedLines.{branch_total, is_branch_path}
use Rattle.fapp_workers.specs.Gathered.{AreSettled, IsLeastWord, IsPlacedBy, log_at}
use Rattle.fapp_workers.specs.Outcomes.{AreTicksOf, IsJobSettledBy}
use Rattle.fapp_workers.proofs.LeastWords.{word-shown}
use Rattle.fapp_workers.specs.Works.{branches_in}

-- ---- the outcomes

module _ (split : Split) (fuel : ℕ) (rows : List KnownRow) (logs : List LogState) (word : ℕ) (outcomes : List Placed) (settled : AreSettled split fuel rows logs word outcomes) where
  placed : (k : ℕ) → k < length outcomes → IsPlacedBy split fuel rows logs word k (get_or outcomes k None)
  placed k less = settled.each k (omega (arith, less, settled.planned))

  is-put : (id : ℕ) (o : Placed) → IsPlacedBy split fuel rows logs word id o → IsPut o
  is-put id None h = h
  is-put id (Some o) h = tt

  outcome-for : (id : ℕ) (lines : List LogLine) (outcome : Outcome) → IsJobSettledBy split fuel id rows lines word outcome → IsOutcomeFor split.instance outcome
  outcome-for id lines (Refuted line tag) h = h.0
  outcome-for id lines (Moot seen) h = tt
  outcome-for id lines Spent h = tt

  placed-for : (id : ℕ) (o : Placed) → IsPlacedBy split fuel rows logs word id o → IsPlacedFor split.instance o
  placed-for id None h = tt
  placed-for id (Some o) h = outcome-for id (log_at logs o.0).lines o.1 h.1

  at-place : (P : Placed → Type 0) → ((k : ℕ) → k < length outcomes → P (get_or outcomes k None)) → All P outcomes
  at-place P h = λ k d less. subst P (get_or_default outcomes k None d less) (h k less)

  pub tags-for : All (IsPlacedFor split.instance) outcomes
  tags-for = at-place (IsPlacedFor split.instance) (λ k less. placed-for k (get_or outcomes k None) (placed k less))

  refuted-by : (id log : ℕ) (line : Ref) (tag : Tag) → id < job_count split.instance split.split → get_or outcomes id None ≡ Some (log, Refuted line tag) →
      IsRefutedBy split.instance split.split rows (all_lines logs) id log line tag
  refuted-by id log line tag inside at =
      let h : IsPlacedBy split fuel rows logs word id (Some (log, Refuted line tag)) = subst (IsPlacedBy split fuel rows logs word id) at (settled.each id inside) in
      let r = h.1.2 in
      let lines : get_or (all_lines logs) log [] ≡ (log_at logs log).lines = get_or-map (λ (l : LogState). l.lines) logs log empty_log [] h.0 in
      record {
        content = r.content;
        cites = subst (λ (ls : List LogLine). Cites rows ls line r.content) (sym lines) r.cited;
        within = r.contained;
        reaches = r.reaches;
      }

  pub outcomes-are : AreOutcomes split.instance split.split rows logs outcomes
  outcomes-are = record {
    count = settled.planned;
    put = at-place IsPut (λ k less. is-put k (get_or outcomes k None) (placed k less));
    tags = tags-for;
    refuted = refuted-by;
  }

pub mergeable : (split : Split) (fuel : ℕ) (rows : List KnownRow) (logs : List LogState) (word root : ℕ) (outcomes : List Placed) (verdict : Verdict) → IsInstance split.instance → AreGoodLogs split.instance rows logs →
    AreSettled split fuel rows logs word outcomes → IsLeastWord split.instance logs word → IsRootTag split.instance (triple_from root) →
    IsVerdictOf split.instance split.split outcomes word root verdict → IsMergeable split.instance split.split logs outcomes word verdict
mergeable split fuel rows logs word root outcomes verdict valid good settled least root_is rule = record {
  rows = rows;
  logs_are = good;
  outcomes_are = outcomes-are split fuel rows logs word outcomes settled;
  ruled = record { shown = word-shown split.instance logs word valid least; root = root; root_is = root_is; rule = rule };
}

-- ---- the bound on lines

same-test : (path : Option ℕ) → is_branch_path path ≡ is_some path
same-test None = refl
same-test (Some path) = refl

same-branches : (lines : List LogLine) → count_by (λ (line : LogLine). is_branch_path line.path) lines ≡ branches_in lines
same-branches lines = sum_by-same-members (λ (line : LogLine). cond (is_branch_path line.path) 1 0) (λ (line : LogLine). cond (is_some line.path) 1 0) lines
    (λ k d less. ap (λ b. cond b 1 0) (same-test (get_or lines k d).path))

pub branches-same : (logs : List LogState) → branch_total logs ≡ sum_by (λ (log : LogState). branches_in log.lines) logs
branches-same logs = sum_by-same-members (λ (log : LogState). count_by (λ (line : LogLine). is_branch_path line.path) log.lines) (λ (log : LogState). branches_in log.lines) logs
    (λ k d less. same-branches (get_or logs k d).lines)

pub ticks-most : (split : Split) (fuel : ℕ) (ticks : List ℕ) (tries : ℕ → ℕ) → length ticks ≡ job_count split.instance split.split →
    ((id : ℕ) → id < job_count split.instance split.split → AreTicksOf split fuel id (get_or ticks id 0)) →
    ((id : ℕ) → id < job_count split.instance split.split → IsTries split.instance (target (job_level split.instance id)) (job_prefix split.instance split.split id) (tries id)) →
    sum ticks ≤ sum_by (λ id. min fuel (tries id)) (range_with_len 0 (job_count split.instance split.split))
ticks-most split fuel ticks tries count few are =
    let whole : sum_by (λ k. get_or ticks k 0) (range_with_len 0 (length ticks)) ≡ sum ticks = sum_by-positions (λ n. n) 0 ticks in
    let at : sum_by (λ k. get_or ticks k 0) (range_with_len 0 (job_count split.instance split.split)) ≡ sum ticks = ap (λ n. sum_by (λ k. get_or ticks k 0) (range_with_len 0 n)) (sym count) ∙ whole in
    let most = range-sum-le (λ k. get_or ticks k 0) (λ id. min fuel (tries id)) (job_count split.instance split.split)
    (λ id inside. omega (arith, (few id inside).within, (few id inside).tried (tries id) (are id inside))) in
    omega (arith, at, most)

pub lines-few : (split : Split) (fuel : ℕ) (logs : List LogState) (ticks : List ℕ) (count most : ℕ) → length ticks ≡ job_count split.instance split.split →
    ((id : ℕ) → id < job_count split.instance split.split → AreTicksOf split fuel id (get_or ticks id 0)) → sum_by (λ (log : LogState). branches_in log.lines) logs ≤ sum ticks →
    count ≤ choice_total split.instance + tree_size split.instance split.split + branch_total logs + 1 → IsMostLines split.instance fuel split.split most → count ≤ most
lines-few split fuel logs ticks count most counted few branches bound m =
    omega (arith, bound, branches, branches-same logs, ticks-most split fuel ticks m.tries counted few m.counted, m.total)
