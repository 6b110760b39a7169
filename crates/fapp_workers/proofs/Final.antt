-- The final word and the works of all.
use Rattle.std.proofs.Common.{◌≡◌, inl, inr, ⊎_elim, ℕ, zero, suc, ◌+◌, ◌<◌, ◌≤◌, min, List, [], ◌∷◌, ◌++◌, length, map, get_or, All, Contains, Option, Some, None, IfOk, fold, refl, sym, ap, ◌∙◌, subst, arith, le_trans, le_refl}
use Rattle.std.proofs.lemmas.List.{get_or-map, get_or_default, length-map}
use Rattle.std.proofs.lemmas.List.Elements.{All-contains, All-map, All-weaker, Contains-get_or}
use Rattle.fapp_model.specs.declared.instance.Instance.{Instance}
use Rattle.fapp_model.specs.Costs.{cost}
use Rattle.fapp_model.specs.Instances.{IsInstance}
use Rattle.fapp_model.specs.Levels.{levels_of}
use Rattle.fapp_model.specs.Tags.{code_of}
use Rattle.fapp_model.specs.search.Jobs.{job_count}
use Rattle.fapp_plan.specs.Plans.{Split}
use Rattle.fapp_plan.specs.VerdictRule.{top_code}
use Rattle.search_log.specs.declared.log.KeptPlan.{KeptPlan}
use Rattle.search_log.specs.Bounds.{lowest, with_offer}
use Rattle.search_log.specs.LogStates.{LogState}
use Rattle.settle_laws.specs.Worlds.{IsKeptRight, IsLeastOffered}
use Rattle.settle_laws.proofs.Adding.{gains-none}
use Rattle.settle_laws.proofs.TagCodes.{code-back}
use Rattle.fapp_workers.specs.Gathered.{IsAtMostKept, KeepsCost}
use Rattle.fapp_workers.proofs.LeastWords.{cost-level}
use Rattle.best_word.specs.declared.seat.BestSeat.{BestSeat}
use Rattle.best_word.specs.declared.seat.BestWord.{BestWord}
use Rattle.best_word.specs.Seats.{view_of, IsOfferedByOne, IsTopOfOne}
use Rattle.nogood_pool.specs.declared.seat.Pool.{Pool}
use Rattle.nogood_pool.specs.declared.view.PoolView.{PoolView}
use Rattle.nogood_pool.specs.Seats.{view_of as pool_view}
use Rattle.pool_rows.specs.Copying.{all_known}
use Rattle.search_log.specs.Contents.{KnownRow}
use Rattle.std.specs.List.{AllZip}
use Rattle.std.proofs.lemmas.List.Elements.{All-cons, All-head, All-nil, All-tail}
use Rattle.fapp_workers.specs.Ends.{AreClosed, IsSeatEnd, IsWorkerEnd, WorkerEnd, all_published, logs_of}
use Rattle.fapp_workers.proofs.PooledSeats.{closes}
use Rattle.fapp_workers.proofs.Homes.{good-after}
use Rattle.fapp_workers.specs.SharingLaws.{AreGoodLogsOver}
use Rattle.steal_ring.specs.declared.seat.Ring.{Ring}
use Rattle.steal_ring.specs.Hands.{won_of}
use Rattle.steal_ring.specs.Jobs.{times}
use Rattle.fapp_workers.specs.declared.place.Place.{Place}
use Rattle.fapp_workers.specs.declared.closing.Work.{Work}
use Rattle.search_log.specs.Logs.{empty_log}
use Rattle.fapp_workers.specs.Begun.{IsStartUsed, KeepsAsCheap, OffersFirst}
use Rattle.fapp_workers.specs.Closings.{IsClosedRun}
use Rattle.fapp_workers.specs.WorkerPlaces.{end_by, pool_seats_of, seats_of, IsTended, IsWorkOf, IsFreshPlace}
use Rattle.fapp_workers.specs.SharedBounds.{least_offer}
use Rattle.fapp_workers.specs.Solved.{AreSolved, IsWorkFor, times_done, works_logs}
use Rattle.fapp_workers.specs.Works.{IsJobDone, ids_of}
use Rattle.fapp_workers.proofs.Bounds.{low-offers}
use Rattle.fapp_workers.proofs.Ending.{count-same, kept-at}
use Rattle.fapp_workers.proofs.Solving.{sum-zip, sum-of-map}
use Rattle.fapp_workers.proofs.Working.{done-grows}

-- ---- the least of some offers is at most each of them

abbrev IsLow : Option ℕ → ℕ → Type 0
IsLow None m = ⊥
IsLow (Some n) m = n ≤ m

fold-low : (offers : List ℕ) (n : ℕ) → (o : Option ℕ) → IsLow o n → IsLow (fold with_offer o offers) n
fold-low [] n o low = low
fold-low (x ∷ xs) n None low = absurd low
fold-low (x ∷ xs) n (Some m) low = fold-low xs n (Some (min m x)) (let h : min m x ≤ n = omega (arith, low) in h)

with-low : (o : Option ℕ) (x : ℕ) → IsLow (with_offer o x) x
with-low None x = le_refl x
with-low (Some m) x = let h : min m x ≤ x = omega arith in h

offer-low : (offers : List ℕ) (o : Option ℕ) (m k : ℕ) → k < length offers → get_or offers k m ≡ m → IsLow (fold with_offer o offers) m
offer-low [] o m k less at = absurd (omega (arith, less))
offer-low (x ∷ xs) o m zero less at = fold-low xs m (with_offer o x) (subst (IsLow (with_offer o x)) at (with-low o x))
offer-low (x ∷ xs) o m (suc k) less at = offer-low xs (with_offer o x) m k (omega (arith, less)) at

pub contains-low : (offers : List ℕ) (m : ℕ) → Contains offers m → IsLow (least_offer offers) m
contains-low offers m has = offer-low offers None m has.0 has.1 (get_or_default offers has.0 m _ has.1 ∙ has.2)

-- ---- what one log keeps

module _ (instance : Instance) (valid : IsInstance instance) (code : ℕ) where
  kept-low : (best : Option KeptPlan) (least : Option ℕ) → IsLeastOffered best least → code ≤ lowest code least → IsAtMostKept code best
  kept-low None least h low = tt
  kept-low (Some best) None h low = absurd h
  kept-low (Some best) (Some n) h low = omega (arith, ap code_of h ∙ code-back n, low)

  below-top : (best : KeptPlan) → IsKeptRight instance (Some best) → code_of best.cost < top_code instance
  below-top best right = omega (arith, ap code_of right.1, (cost-level instance best.plan valid).below_top)

  none-by : code ≡ top_code instance → (best : Option KeptPlan) → IsAtMostKept code best → IsKeptRight instance best → best ≡ None
  none-by top None low right = refl
  none-by top (Some best) low right = absurd (omega (arith, low, top, below-top best right))

  keeps-by : (logs : List LogState) (log : LogState) → Contains logs log → (best : Option KeptPlan) (least : Option ℕ) → log.best ≡ best → IsLeastOffered best least → code ≤ lowest code least → IsLow least code → KeepsCost logs code
  keeps-by logs log among best None is h low has = absurd has
  keeps-by logs log among None (Some n) is h low has = absurd h
  keeps-by logs log among (Some best) (Some n) is h low has = record {
    log = log;
    among = among;
    best = best;
    kept = is;
    cost = (let c : code_of best.cost ≡ n = ap code_of h ∙ code-back n in omega (arith, c, low, has));
  }

-- ---- what the workers leave behind

module _ (split : Split) (fuel : ℕ) where
  -- what stands at a place and what was kept of it
  abbrev IsEnded : Place → Work → Type 0
  IsEnded place work = IsWorkOf split fuel place.hand place.seat place.pool_seat work.log work.done.items

  zipped : (places : List Place) (works : List Work) → length works ≡ length places → ((k : ℕ) (p : Place) (w : Work) → k < length places → IsEnded (get_or places k p) (get_or works k w)) → AllZip IsEnded places works
  zipped [] [] len at = tt
  zipped [] (w ∷ works) len at = absurd (omega (arith, len))
  zipped (p ∷ places) [] len at = absurd (omega (arith, len))
  zipped (p ∷ places) (w ∷ works) len at = (at 0 p w (omega arith), zipped places works (omega (arith, len)) (λ k q v less. at (suc k) q v (omega (arith, less))))

  ends-by : (places : List Place) (works : List Work) → AllZip IsEnded places works → List WorkerEnd
  ends-by [] [] zip = []
  ends-by [] (w ∷ works) zip = absurd zip
  ends-by (p ∷ places) [] zip = absurd zip
  ends-by (p ∷ places) (w ∷ works) zip = end_by p.pool_seat w.log zip.0.copied ∷ ends-by places works zip.1

  ends-logs : (places : List Place) (works : List Work) (zip : AllZip IsEnded places works) → logs_of (ends-by places works zip) ≡ works_logs works
  unfolding ends-by
  ends-logs [] [] zip = refl
  ends-logs [] (w ∷ works) zip = absurd zip
  ends-logs (p ∷ places) [] zip = absurd zip
  ends-logs (p ∷ places) (w ∷ works) zip = ap (λ logs. w.log ∷ logs) (ends-logs places works zip.1)

  ends-good : (places : List Place) (works : List Work) (zip : AllZip IsEnded places works) → All (IsWorkerEnd split.instance) (ends-by places works zip)
  unfolding ends-by
  ends-good [] [] zip = All-nil _
  ends-good [] (w ∷ works) zip = absurd zip
  ends-good (p ∷ places) [] zip = absurd zip
  ends-good (p ∷ places) (w ∷ works) zip = All-cons (IsWorkerEnd split.instance) (end_by p.pool_seat w.log zip.0.copied) (ends-by places works zip.1) zip.0.end (ends-good places works zip.1)

  ends-seats : (places : List Place) (works : List Work) (zip : AllZip IsEnded places works) → AllZip IsSeatEnd (map pool_view (pool_seats_of places)) (ends-by places works zip)
  unfolding ends-by
  ends-seats [] [] zip = tt
  ends-seats [] (w ∷ works) zip = absurd zip
  ends-seats (p ∷ places) [] zip = absurd zip
  ends-seats (p ∷ places) (w ∷ works) zip = (record { published = refl; copied = zip.0.seen }, ends-seats places works zip.1)

  works-for : (rows : List KnownRow) (code : ℕ) (places : List Place) (works : List Work) (zip : AllZip IsEnded places works) → All (λ (p : Place). code ≤ (view_of p.seat).least) places →
      All (λ (e : WorkerEnd). All (Contains rows) e.copied) (ends-by places works zip) → All (IsWorkFor split fuel code rows) works
  unfolding ends-by
  works-for rows code [] [] zip low has = All-nil _
  works-for rows code [] (w ∷ works) zip low has = absurd zip
  works-for rows code (p ∷ places) [] zip low has = absurd zip
  works-for rows code (p ∷ places) (w ∷ works) zip low has = All-cons (IsWorkFor split fuel code rows) w works
      (record {
        branches = zip.0.branches;
        each = All-weaker (IsJobDone split fuel zip.0.copied w.log.lines (view_of p.seat).least) (IsJobDone split fuel rows w.log.lines code)
            (λ d one. done-grows split fuel zip.0.copied rows w.log.lines w.log.lines (view_of p.seat).least code d
            (All-head (λ (e : WorkerEnd). All (Contains rows) e.copied) (end_by p.pool_seat w.log zip.0.copied) (ends-by places works zip.1) has) (gains-none w.log.lines)
            (All-head (λ (q : Place). code ≤ (view_of q.seat).least) p places low) one) w.done.items zip.0.each;
      })
      (works-for rows code places works zip.1 (All-tail (λ (q : Place). code ≤ (view_of q.seat).least) p places low)
      (All-tail (λ (e : WorkerEnd). All (Contains rows) e.copied) (end_by p.pool_seat w.log zip.0.copied) (ends-by places works zip.1) has))

-- ---- all works

module _ (split : Split) (fuel workers : ℕ) (valid : IsInstance split.instance) (ring : Ring) (word : BestWord) (pool : Pool) (first : PoolView) (placed : List KnownRow) (published : all_known first.published ≡ placed) (old new : List Place) (len : length new ≡ length old) (count : length old ≡ workers)
    (stand : All (IsFreshPlace split ring word pool) old) (tended : (i : ℕ) (d e : Place) → i < length old → IsTended split fuel ring word pool (get_or old i d) (get_or new i e))
    (works : List Work) (code : ℕ) (closed : IsClosedRun (job_count split.instance split.split) first new works code) where
  as-many : length works ≡ length new
  as-many = count-same works new closed.kept

  -- what stands at a place, where its worker had memory
  work-at : (k : ℕ) (w : Work) (p : Place) → k < length new → IsEnded split fuel (get_or new k p) (get_or works k w)
  work-at k w p less =
      let place = get_or new k p in
      let at = kept-at works new k w p closed.kept less in
      let t = tended k p p (omega (arith, less, len)) in
      let done = subst (λ r. IfOk r (λ done. IsWorkOf split fuel place.hand place.seat place.pool_seat place.log done.items)) (sym (ap (λ kept. kept.1) at)) t.works in
      subst (λ log. IsWorkOf split fuel place.hand place.seat place.pool_seat log (get_or works k w).done.items) (sym (ap (λ kept. kept.0) at)) done

  seat-low : (k : ℕ) (p : Place) → k < length new → code ≤ (view_of (get_or new k p).seat).least
  seat-low k p less =
      let at = get_or-map (λ (p : Place). p.seat) new k p p.seat less in
      subst (λ (s : BestSeat). code ≤ (view_of s).least) at (closed.least.least k p.seat (omega (arith, less, length-map new (λ (p : Place). p.seat))))

  module _ (p : Place) where
    zip : AllZip (IsEnded split fuel) new works
    zip = zipped split fuel new works as-many (λ k q w less. work-at k w q less)

    ends : List WorkerEnd
    ends = ends-by split fuel new works zip

    closed-ends : AreClosed placed ends
    unfolding ends ends-by
    closed-ends = subst (λ rows. AreClosed rows ends) published (closes first (map pool_view (pool_seats_of new)) ends closed.pooled (ends-seats split fuel new works zip))

    logs-are-good : AreGoodLogsOver split.instance placed (all_published ends) (works_logs works)
    unfolding ends ends-by
    logs-are-good = subst (AreGoodLogsOver split.instance placed (all_published ends)) (ends-logs split fuel new works zip) (good-after split.instance placed ends (ends-good split fuel new works zip) closed-ends)

    work-for : All (IsWorkFor split fuel code (placed ++ all_published ends)) works
    unfolding ends ends-by
    work-for = works-for split fuel (placed ++ all_published ends) code new works zip (λ k q less. seat-low k q less) closed-ends.copied

    once : (job : ℕ) → job < job_count split.instance split.split → times_done job works ≡ 1
    once job inside =
        sum-zip (λ (w : Work). times job (ids_of w.done.items)) (λ (p : Place). times job (won_of p.hand)) works new as-many (λ i w q less. ap (times job) (sym (work-at i w q (omega (arith, less, as-many))).given))
        ∙ (sym (sum-of-map (λ h. times job (won_of h)) (λ (p : Place). p.hand) new) ∙ closed.once job inside)

    offers-low : (k : ℕ) → k < length new → code ≤ lowest code (least_offer (view_of (get_or new k p).seat).offers)
    offers-low k less =
        let seat = (get_or new k p).seat in
        let low = seat-low k p less in
        low-offers code code (view_of seat).offers (le_refl code) (All-weaker (λ n. (view_of seat).least ≤ n) (λ n. code ≤ n) (λ n h. le_trans low h) (view_of seat).offers seat.offered)

    low-kept : All (λ (w : Work). IsAtMostKept code w.log.best) works
    low-kept = λ k w less.
        let inside : k < length new = omega (arith, less, as-many) in
        kept-low split.instance valid code (get_or works k w).log.best (least_offer (view_of (get_or new k p).seat).offers) (work-at k w p inside).kept (offers-low k inside)

    right-kept : All (λ (w : Work). IsKeptRight split.instance w.log.best) works
    right-kept = λ k w less. (work-at k w p (omega (arith, less, as-many))).right

    -- the levels of each seat
    levels-at : (k : ℕ) → k < length new → (view_of (get_or new k p).seat).levels ≡ levels_of split.instance
    levels-at k less = let inside : k < length old = omega (arith, less, len) in (tended k p p inside).levels ∙ (stand k p inside).seated.levels

    none-kept : code ≡ top_code split.instance → All (λ (log : LogState). log.best ≡ None) (works_logs works)
    none-kept top = All-map (λ (log : LogState). log.best ≡ None) (λ (w : Work). w.log) works (λ k w less. none-by split.instance valid code top (get_or works k w).log.best (low-kept k w less) (right-kept k w less))

    -- a seat is that of a place
    seat-place : (seat : BestSeat) (h : Contains (seats_of new) seat) → (get_or new h.0 p).seat ≡ seat
    seat-place seat h =
        let inside : h.0 < length new = omega (arith, h.1, length-map new (λ (p : Place). p.seat)) in
        sym (get_or-map (λ (p : Place). p.seat) new h.0 p seat inside) ∙ (get_or_default (seats_of new) h.0 seat _ h.1 ∙ h.2)

    is-top : IsTopOfOne (seats_of new) code → code ≡ top_code split.instance
    is-top t =
        let inside : t.among.0 < length new = omega (arith, t.among.1, length-map new (λ (p : Place). p.seat)) in
        let levels : (view_of t.seat).levels ≡ levels_of split.instance = ap (λ (s : BestSeat). (view_of s).levels) (sym (seat-place t.seat t.among)) ∙ levels-at t.among.0 inside in
        t.top ∙ ap (λ n. code_of (record { k = n + 1; v = 0; s = 0 })) levels

    is-kept : Work → IsOfferedByOne (seats_of new) code → KeepsCost (works_logs works) code
    is-kept w o =
        let k = o.among.0 in
        let inside : k < length new = omega (arith, o.among.1, length-map new (λ (p : Place). p.seat)) in
        let here : k < length works = omega (arith, inside, as-many) in
        let log = (get_or works k w).log in
        let seat = (get_or new k p).seat in
        let among : Contains (works_logs works) log = subst (Contains (works_logs works)) (get_or-map (λ (x : Work). x.log) works k w log here) (Contains-get_or (works_logs works) k log (omega (arith, here, length-map works (λ (x : Work). x.log)))) in
        keeps-by split.instance valid code (works_logs works) log among log.best (least_offer (view_of seat).offers) refl (work-at k w p inside).kept (offers-low k inside)
        (contains-low (view_of seat).offers code (subst (λ (s : BestSeat). Contains (view_of s).offers code) (sym (seat-place o.seat o.among)) o.offered))

    pub solved : Work → AreSolved split fuel workers placed works code
    solved w = record {
      rows = all_published ends;
      count = as-many ∙ (len ∙ count);
      once = once;
      good = logs-are-good;
      each = work-for;
      least = record {
        right = All-map (λ (log : LogState). IsKeptRight split.instance log.best) (λ (x : Work). x.log) works right-kept;
        low = All-map (λ (log : LogState). IsAtMostKept code log.best) (λ (x : Work). x.log) works low-kept;
        is = ⊎_elim (λ t. let top = is-top t in inl (top, none-kept top)) (λ o. inr (is-kept w o)) closed.least.from;
      };
    }

    -- what the first seat offered before is used
    pub start-used : (plan : List ℕ) → 0 < length new → OffersFirst split.instance plan old → IsStartUsed split.instance plan (works_logs works) code
    start-used plan some offers =
        let seat = (get_or new 0 p).seat in
        let n : ℕ = code_of (cost split.instance plan) in
        let has : Contains (view_of seat).offers n = (tended 0 p p (omega (arith, some, len))).offered n (offers p) in
        record {
          kept = at-first works (omega (arith, some, as-many)) (λ w. cheap (get_or works 0 w).log.best (least_offer (view_of seat).offers) n (work-at 0 w p some).kept (contains-low (view_of seat).offers n has));
          word_is = le_trans (seat-low 0 p some) (All-contains (λ m. (view_of seat).least ≤ m) (view_of seat).offers n seat.offered has);
        }
      where
        at-first : (xs : List Work) → 0 < length xs → ((w : Work) → KeepsAsCheap (get_or xs 0 w).log.best (code_of (cost split.instance plan))) → KeepsAsCheap (get_or (works_logs xs) 0 empty_log).best (code_of (cost split.instance plan))
        at-first [] inside h = absurd (omega (arith, inside))
        at-first (x ∷ xs) inside h = h x

        cheap : (best : Option KeptPlan) (least : Option ℕ) (n : ℕ) → IsLeastOffered best least → IsLow least n → KeepsAsCheap best n
        cheap None None n h low = low
        cheap None (Some m) n h low = h
        cheap (Some best) None n h low = absurd h
        cheap (Some best) (Some m) n h low = omega (arith, ap code_of h ∙ code-back m, low)

pub some-work : (works : List Work) → 0 < length works → Work
some-work [] some = absurd (omega (arith, some))
some-work (w ∷ works) some = w
