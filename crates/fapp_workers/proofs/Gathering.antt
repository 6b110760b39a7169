-- All jobs, by their numbers, from what the workers have done.
use Rattle.std.proofs.Common.{◌≡◌, inl, inr, ⊎_elim, ℕ, suc, ◌+◌, ◌<◌, ◌≤◌, List, [], ◌∷◌, ◌++◌, length, map, get_or, sum, sum_by, All, Some, None, refl, sym, ap, ◌∙◌, subst, arith}
use Rattle.std.proofs.lemmas.Bool.{cases_lt}
use Rattle.std.proofs.lemmas.List.{get_or-map, length-map, map-append}
use Rattle.std.proofs.lemmas.List.Elements.{All-append, All-head, All-map, All-nil, All-tail, All-weaker}
use Rattle.std.proofs.lemmas.List.Sums.{sum_by-append, sum_by-cons}
use Rattle.fapp_model.specs.search.Jobs.{job_count}
use Rattle.fapp_plan.specs.Outcomes.{Placed}
use Rattle.fapp_plan.specs.Plans.{Split}
use Rattle.search_log.specs.Contents.{KnownRow}
use Rattle.search_log.specs.Logs.{empty_log}
use Rattle.search_log.specs.LogStates.{LogState}
use Rattle.fapp_workers.specs.Gathered.{IsPlacedBy, log_at}
use Rattle.fapp_workers.specs.Outcomes.{AreTicksOf}
use Rattle.steal_ring.specs.Jobs.{times, once}
use Rattle.fapp_workers.specs.declared.closing.Work.{Work}
use Rattle.fapp_workers.specs.declared.gather.Put.{Put}
use Rattle.fapp_workers.specs.declared.job.Done.{Done}
use Rattle.fapp_workers.specs.declared.solve.Gathered.{Gathered}
use Rattle.fapp_workers.specs.SharingLaws.{AreGoodLogsOver}
use Rattle.fapp_workers.specs.Collections.{IsDeadCount, IsGatheredRun, IsGatheredOver, IsPutBelow, IsPutByWorkers}
use Rattle.fapp_workers.specs.Puts.{ArePut, puts_from, put_at, put_ids}
use Rattle.fapp_workers.specs.Solved.{AreSolved, IsWorkFor, times_done, works_logs}
use Rattle.fapp_workers.specs.Works.{IsAllTaken, IsJobDone, branches_in, ids_of, ticks_in}
use Rattle.fapp_workers.proofs.DeadCounts.{counts-dead}
use Rattle.steal_ring.proofs.RingRule.{once_at}

-- ---- puts and works

ids-at : (place : ℕ) (done : List Done) → put_ids (map (put_at place) done) ≡ ids_of done
ids-at place [] = refl
ids-at place (d ∷ done) = ap (λ ids. d.id ∷ ids) (ids-at place done)

-- a job was put as often as it was done
pub times-put : (job n : ℕ) (works : List Work) → times job (put_ids (puts_from n works)) ≡ times_done job works
times-put job n [] = refl
times-put job n (work ∷ works) =
    let done = work.done.items in
    let split = ap (times job) (map-append (λ (put : Put). put.done.id) (map (put_at n) done) (puts_from (n + 1) works)) ∙ sum_by-append (once job) (put_ids (map (put_at n) done)) (put_ids (puts_from (n + 1) works)) in
    let here = ap (times job) (ids-at n done) in
    omega (arith, split, here, times-put job (n + 1) works, sum_by-cons (λ (w : Work). times job (ids_of w.done.items)) work works)

ticks-at : (place : ℕ) (done : List Done) → sum_by (λ (put : Put). put.done.ticks) (map (put_at place) done) ≡ ticks_in done
ticks-at place [] = refl
ticks-at place (d ∷ done) = omega (arith, sum_by-cons (λ (put : Put). put.done.ticks) (put_at place d) (map (put_at place) done), sum_by-cons (λ (e : Done). e.ticks) d done, ticks-at place done)

ticks-put : (n : ℕ) (works : List Work) → sum_by (λ (put : Put). put.done.ticks) (puts_from n works) ≡ sum_by (λ (w : Work). ticks_in w.done.items) works
ticks-put n [] = refl
ticks-put n (work ∷ works) =
    omega (
      arith,
      sum_by-append (λ (put : Put). put.done.ticks) (map (put_at n) work.done.items) (puts_from (n + 1) works),
      ticks-at n work.done.items,
      ticks-put (n + 1) works,
      sum_by-cons (λ (w : Work). ticks_in w.done.items) work works,
    )

-- what holds of each job that was done at a place holds of each that was put with it
all-put : (P : ℕ → Done → Type 0) (n : ℕ) (works : List Work) → ((i : ℕ) (w : Work) → i < length works → All (P (n + i)) (get_or works i w).done.items) → All (λ (put : Put). P put.place put.done) (puts_from n works)
all-put P n [] at = All-nil _
all-put P n (work ∷ works) at =
    let here : n + 0 ≡ n = omega arith in
    All-append (λ (put : Put). P put.place put.done) (map (put_at n) work.done.items) (puts_from (n + 1) works)
    (All-map (λ (put : Put). P put.place put.done) (put_at n) work.done.items (subst (λ m. All (P m) work.done.items) here (at 0 work (omega arith))))
    (all-put P (n + 1) works (λ i w less. let next : n + suc i ≡ n + 1 + i = omega arith in subst (λ m. All (P m) (get_or works i w).done.items) next (at (suc i) w (omega (arith, less)))))

-- a job that was put stands somewhere
found-put : (puts : List Put) (job : ℕ) → 0 < times job (put_ids puts) → (k : ℕ) × (k < length puts) × ((d : Put) → (get_or puts k d).done.id ≡ job)
found-put [] job some = absurd (omega (arith, some))
found-put (put ∷ puts) job some = ⊎_elim
    (λ o. (0, omega arith, λ d. sym o.0))
    (λ o.
    let rest = found-put puts job (omega (arith, some, o.1, sum_by-cons (once job) put.done.id (put_ids puts))) in
    (suc rest.0, omega (arith, rest.1), rest.2))
    (once_at job put.done.id)

-- ---- what follows

module _ (split : Split) (fuel workers : ℕ) (placed : List KnownRow) (works : List Work) (word : ℕ) (solved : AreSolved split fuel workers placed works word) where
  -- the rows over which the logs are good
  abbrev rows : List KnownRow
  rows = placed ++ solved.rows

  abbrev logs : List LogState
  logs = works_logs works

  -- what is known of each job that was put
  abbrev IsKnown : ℕ → Done → Type 0
  IsKnown place done = (place < length works) × IsJobDone split fuel rows (log_at logs place).lines word done

  known-at : (i : ℕ) (w : Work) → i < length works → All (IsKnown (0 + i)) (get_or works i w).done.items
  known-at i w less =
      let log = get_or-map (λ (x : Work). x.log) works i w empty_log less in
      let here : 0 + i ≡ i = omega arith in
      subst (λ m. All (IsKnown m) (get_or works i w).done.items) (sym here)
      (All-weaker (IsJobDone split fuel rows (get_or works i w).log.lines word) (IsKnown i)
      (λ d one. (less, subst (λ (l : LogState). IsJobDone split fuel rows l.lines word d) (sym log) one)) (get_or works i w).done.items (solved.each i w less).each)

  all-known-puts : All (λ (put : Put). IsKnown put.place put.done) (puts_from 0 works)
  all-known-puts = all-put IsKnown 0 works known-at

  pub puts-inside : All (λ (put : Put). put.done.id < job_count split.instance split.split) (puts_from 0 works)
  puts-inside = All-weaker (λ (put : Put). IsKnown put.place put.done) (λ (put : Put). put.done.id < job_count split.instance split.split) (λ put known. known.1.inside) (puts_from 0 works) all-known-puts

  -- a job that is none of the plan's was never done
  none-outside : (puts : List Put) → All (λ (put : Put). put.done.id < job_count split.instance split.split) puts → (job : ℕ) → job_count split.instance split.split ≤ job → times job (put_ids puts) ≡ 0
  none-outside [] inside job past = refl
  none-outside (put ∷ puts) inside job past =
      let here = All-head (λ (p : Put). p.done.id < job_count split.instance split.split) put puts inside in
      let rest = none-outside puts (All-tail (λ (p : Put). p.done.id < job_count split.instance split.split) put puts inside) job past in
      ⊎_elim (λ o. absurd (omega (arith, o.0, here, past))) (λ o. omega (arith, o.1, rest, sum_by-cons (once job) put.done.id (put_ids puts))) (once_at job put.done.id)

  pub puts-once : (job : ℕ) → times job (put_ids (puts_from 0 works)) ≤ 1
  puts-once job = elim (cases_lt job (job_count split.instance split.split)) [
    | inl less ↦ omega (arith, times-put job 0 works, solved.once job less)
    | inr past ↦ omega (arith, none-outside (puts_from 0 works) puts-inside job past)
  ]

  module _ (outcomes : List Placed) (ticks : List ℕ) (put : ArePut (job_count split.instance split.split) (puts_from 0 works) outcomes ticks) where
    -- the put of a job of the plan
    put-of : (id : ℕ) → id < job_count split.instance split.split → (p : Put) × (p.done.id ≡ id) × IsKnown p.place p.done × (get_or outcomes p.done.id None ≡ Some (p.place, p.done.outcome)) × (get_or ticks p.done.id 0 ≡ p.done.ticks)
    put-of id inside =
        let puts = puts_from 0 works in
        let found = found-put puts id (omega (arith, times-put id 0 works, solved.once id inside)) in
        let d : Put = some-put puts (omega (arith, found.1)) in
        let k = found.0 in
        let stands = put.each k d found.1 in
        (get_or puts k d, found.2 d, all-known-puts k d found.1, stands.0, stands.1)
      where
        some-put : (puts : List Put) → 0 < length puts → Put
        some-put [] some = absurd (omega (arith, some))
        some-put (p ∷ puts) some = p

    settled-at : (id : ℕ) → id < job_count split.instance split.split → IsPlacedBy split fuel rows logs word id (get_or outcomes id None)
    settled-at id inside =
        let p = put-of id inside in
        let at : get_or outcomes id None ≡ Some (p.0.place, p.0.done.outcome) = ap (λ n. get_or outcomes n None) (sym p.1) ∙ p.3 in
        subst (IsPlacedBy split fuel rows logs word id) (sym at)
        (subst (λ n. IsPlacedBy split fuel rows logs word n (Some (p.0.place, p.0.done.outcome))) p.1
        (omega (arith, p.2.0, length-map works (λ (x : Work). x.log)), p.2.1.settled))

    tried : (id : ℕ) → id < job_count split.instance split.split → AreTicksOf split fuel id (get_or ticks id 0)
    tried id inside =
        let p = put-of id inside in
        subst (AreTicksOf split fuel id) (sym (ap (λ n. get_or ticks n 0) (sym p.1) ∙ p.4)) (subst (λ n. AreTicksOf split fuel n p.0.done.ticks) p.1 p.2.1.ticks)

    below : (id : ℕ) → id < job_count split.instance split.split → IsPutBelow workers fuel (get_or outcomes id None) (get_or ticks id 0)
    below id inside =
        let p = put-of id inside in
        let at : get_or outcomes id None ≡ Some (p.0.place, p.0.done.outcome) = ap (λ n. get_or outcomes n None) (sym p.1) ∙ p.3 in
        let took : get_or ticks id 0 ≡ p.0.done.ticks = ap (λ n. get_or ticks n 0) (sym p.1) ∙ p.4 in
        subst (λ o. IsPutBelow workers fuel o (get_or ticks id 0)) (sym at)
        (omega (arith, p.2.0, solved.count), subst (IsAllTaken fuel p.0.done.outcome) (sym took) p.2.1.taken)

    branches-few : sum_by (λ (log : LogState). branches_in log.lines) logs ≤ sum ticks
    branches-few = omega (arith, few works solved.each, put.total, ticks-put 0 works)
      where
        few : (works : List Work) → All (IsWorkFor split fuel word rows) works → sum_by (λ (log : LogState). branches_in log.lines) (works_logs works) ≤ sum_by (λ (w : Work). ticks_in w.done.items) works
        few [] each = omega arith
        few (w ∷ works) each =
            omega (
              arith,
              (All-head (IsWorkFor split fuel word rows) w works each).branches,
              few works (All-tail (IsWorkFor split fuel word rows) w works each),
              sum_by-cons (λ (log : LogState). branches_in log.lines) w.log (works_logs works),
              sum_by-cons (λ (x : Work). ticks_in x.done.items) w works,
            )

    pub gathered : (g : Gathered) → g.logs.items ≡ logs → g.collected ≡ outcomes → g.ticks.items ≡ ticks → g.word.code ≡ word → IsGatheredOver split fuel placed g
    gathered g same_logs same_outcomes same_ticks same_word = record {
      rows = solved.rows;
      logs = subst (AreGoodLogsOver split.instance placed solved.rows) (sym same_logs) solved.good;
      dead = subst (λ ls. All (λ (log : LogState). All (IsDeadCount split.instance) log.lines) ls) (sym same_logs) (counts-dead split.instance placed solved.rows logs solved.good);
      word = rw (same_logs, same_word) solved.least;
      settled = rw (same_logs, same_outcomes, same_word) (record { planned = put.whole.0; each = settled-at });
      counted = rw same_ticks put.whole.1;
      ticks = rw same_ticks tried;
      branches = rw (same_logs, same_ticks) branches-few;
    }

    pub put-by-workers : (g : Gathered) → g.logs.items ≡ logs → g.collected ≡ outcomes → g.ticks.items ≡ ticks → IsPutByWorkers split workers fuel g
    put-by-workers g same_logs same_outcomes same_ticks = record {
      logs = rw same_logs (omega (arith, length-map works (λ (x : Work). x.log), solved.count));
      each = rw (same_outcomes, same_ticks) below;
    }

-- where no row was placed before
pub gathered-alone : (split : Split) (fuel : ℕ) (g : Gathered) → IsGatheredOver split fuel [] g → IsGatheredRun split fuel g
gathered-alone split fuel g h = record {
  rows = h.rows;
  logs = record { good = h.logs.good; home = h.logs.home; once = h.logs.once; bare = h.logs.bare };
  dead = h.dead;
  word = h.word;
  settled = h.settled;
  counted = h.counted;
  ticks = h.ticks;
  branches = h.branches;
}
