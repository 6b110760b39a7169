-- What workers that share rows leave behind is good, and shows the outcomes of all jobs.
use Rattle.std.proofs.Common.{◌≡◌, ℕ, ◌<◌, List, [], ◌∷◌, length, get_or, All, Some, None, sym, subst, arith}
use Rattle.std.proofs.lemmas.List.{get_or-map, get_or_default}
use Rattle.fapp_model.specs.declared.tag.Tag.{Tag}
use Rattle.fapp_model.specs.search.Jobs.{job_count}
use Rattle.search_log.specs.declared.line.LogLine.{LogLine}
use Rattle.search_log.specs.declared.line.Ref.{Ref}
use Rattle.search_log.specs.Contents.{Cites, KnownRow}
use Rattle.search_log.specs.declared.job.Outcome.{Outcome}
use Rattle.search_log.specs.declared.job.Outcome.TheVariants.{Refuted, Moot, Spent}
use Rattle.search_log.specs.Logs.{empty_log}
use Rattle.search_log.specs.LogStates.{LogState}
use Rattle.fapp_plan.specs.Outcomes.{IsOutcomeFor, IsPlacedFor, Placed}
use Rattle.fapp_plan.specs.Plans.{Split}
use Rattle.fapp_plan.specs.Shown.{AreOutcomes, IsPut, IsRefutedBy}
use Rattle.search_log.specs.GoodLogs.{all_lines}
use Rattle.fapp_workers.specs.Gathered.{AreSettled, IsPlacedBy, log_at}
use Rattle.fapp_workers.specs.Outcomes.{IsJobSettledBy}
use Rattle.std.specs.List.{AllZip}
use Rattle.nogood_pool.specs.declared.view.PoolView.{PoolView}
use Rattle.nogood_pool.specs.declared.view.HeldRow.{HeldRow}
use Rattle.nogood_pool.specs.Ends.{ArePooled}
use Rattle.pool_rows.specs.Copying.{all_known}
use Rattle.fapp_workers.specs.Ends.{AreClosed, IsSeatEnd, IsWorkerEnd, WorkerEnd, all_published, logs_of}
use Rattle.fapp_workers.specs.SharingLaws.{AreShown, IsSharedRun}
use Rattle.fapp_workers.proofs.PooledSeats.{closes}
use Rattle.fapp_workers.proofs.Homes.{good-alone}
use Rattle.fapp_workers.proofs.Shown.{shown}

module _ (split : Split) (fuel : ℕ) (rows : List KnownRow) (logs : List LogState) (word : ℕ) (outcomes : List Placed) (settled : AreSettled split fuel rows logs word outcomes) where
  placed : (k : ℕ) → k < length outcomes → IsPlacedBy split fuel rows logs word k (get_or outcomes k None)
  placed k less = settled.each k (omega (arith, less, settled.planned))

  is-put : (id : ℕ) (o : Placed) → IsPlacedBy split fuel rows logs word id o → IsPut o
  is-put id None h = h
  is-put id (Some o) h = tt

  outcome-for : (id : ℕ) (lines : List LogLine) (outcome : Outcome) → IsJobSettledBy split fuel id rows lines word outcome → IsOutcomeFor split.instance outcome
  outcome-for id lines (Refuted line tag) h = h.0
  outcome-for id lines (Moot seen) h = tt
  outcome-for id lines Spent h = tt

  placed-for : (id : ℕ) (o : Placed) → IsPlacedBy split fuel rows logs word id o → IsPlacedFor split.instance o
  placed-for id None h = tt
  placed-for id (Some o) h = outcome-for id (log_at logs o.0).lines o.1 h.1

  at-place : (P : Placed → Type 0) → ((k : ℕ) → k < length outcomes → P (get_or outcomes k None)) → All P outcomes
  at-place P h = λ k d less. subst P (get_or_default outcomes k None d less) (h k less)

  pub tags-for : All (IsPlacedFor split.instance) outcomes
  tags-for = at-place (IsPlacedFor split.instance) (λ k less. placed-for k (get_or outcomes k None) (placed k less))

  refuted-by : (id log : ℕ) (line : Ref) (tag : Tag) → id < job_count split.instance split.split → get_or outcomes id None ≡ Some (log, Refuted line tag) →
      IsRefutedBy split.instance split.split rows (all_lines logs) id log line tag
  refuted-by id log line tag inside at =
      let h : IsPlacedBy split fuel rows logs word id (Some (log, Refuted line tag)) = subst (IsPlacedBy split fuel rows logs word id) at (settled.each id inside) in
      let r = h.1.2 in
      let lines : get_or (all_lines logs) log [] ≡ (log_at logs log).lines = get_or-map (λ (l : LogState). l.lines) logs log empty_log [] h.0 in
      record {
        content = r.content;
        cites = subst (λ (ls : List LogLine). Cites rows ls line r.content) (sym lines) r.cited;
        within = r.contained;
        reaches = r.reaches;
      }

  pub outcomes-are : AreOutcomes split.instance split.split rows logs outcomes
  outcomes-are = record {
    count = settled.planned;
    put = at-place IsPut (λ k less. is-put k (get_or outcomes k None) (placed k less));
    tags = tags-for;
    refuted = refuted-by;
  }

pub shared-settled : (split : Split) (fuel : ℕ) (first : PoolView) (views : List PoolView) (ends : List WorkerEnd) (word : ℕ) (outcomes : List Placed) →
    All (IsWorkerEnd split.instance) ends → AllZip IsSeatEnd views ends → first.published ≡ [] → ArePooled (first ∷ views) → AreShown split fuel ends word outcomes →
    IsSharedRun split (all_published ends) (logs_of ends) outcomes
shared-settled split fuel first views ends word outcomes each zip none pooled are =
    let closed : AreClosed [] ends = subst (λ (held : List HeldRow). AreClosed (all_known held) ends) none (closes first views ends pooled zip) in
    let settled : AreSettled split fuel (all_published ends) (logs_of ends) word outcomes = record {
      planned = are.planned;
      each = λ id inside. shown split fuel [] ends word id (get_or outcomes id None) closed (are.each id inside);
    } in
    record {
      logs_are = good-alone split.instance ends each closed;
      outcomes_are = outcomes-are split fuel (all_published ends) (logs_of ends) word outcomes settled;
    }
