-- What comes back from a worker.
use Rattle.std.proofs.Common.{◌≡◌, ℕ, ◌≤◌, List, [], ◌++◌, All, Contains, Result, Ok, Err, IfOk, Vec, Global, sym, ap, ◌∙◌, subst, arith}
use Rattle.std.specs.declared.alloc.AllocError.{AllocError}
use Rattle.std.proofs.lemmas.List.Elements.{All-contains_itself, All-weaker}
use Rattle.fapp_plan.specs.Plans.{Split}
use Rattle.search_log.specs.declared.line.LogLine.{LogLine}
use Rattle.search_log.specs.declared.line.Segment.{Segment}
use Rattle.search_log.specs.Contents.{KnownRow}
use Rattle.search_log.specs.Segments.{IsGoodLog}
use Rattle.search_log.specs.Bounds.{BoundState, floor}
use Rattle.search_log.specs.LogStates.{LogState}
use Rattle.search_log.specs.Shares.{SharedState}
use Rattle.settle_laws.specs.Settling.{AreHome}
use Rattle.settle_laws.specs.Worlds.{IsKeptRight, IsLeastOffered}
use Rattle.search_log.specs.GoodLogs.{IsBare}
use Rattle.settle_laws.proofs.Adding.{gains-none}
use Rattle.best_word.specs.declared.seat.BestSeat.{BestSeat}
use Rattle.best_word.specs.Seats.{view_of}
use Rattle.nogood_pool.specs.declared.seat.PoolSeat.{PoolSeat}
use Rattle.nogood_pool.specs.Seats.{view_of as pool_view}
use Rattle.pool_rows.specs.Copying.{all_known}
use Rattle.steal_ring.specs.declared.hand.Hand.{Hand}
use Rattle.steal_ring.specs.Hands.{won_of}
use Rattle.fapp_workers.specs.declared.job.Done.{Done}
use Rattle.fapp_workers.specs.Jobs.{held}
use Rattle.fapp_workers.specs.WorkerPlaces.{IsWorkOf}
use Rattle.fapp_workers.specs.Rows.{IsRowsClause}
use Rattle.fapp_workers.specs.SharedBounds.{least_offer}
use Rattle.fapp_workers.specs.Works.{IsJobDone, IsHandClause, IsLogClause, branches_in, ids_of}
use Rattle.fapp_workers.proofs.Working.{done-grows}

module _ (split : Split) (fuel : ℕ) (bound after : BoundState) (shared more : SharedState) (seat : BestSeat) (pool_seat : PoolSeat) (old new : Hand) (before log : LogState)
    (fresh : won_of old ≡ []) (lineless : before.lines ≡ []) (segmentless : before.segments ≡ []) (kept_right : IsKeptRight split.instance before.best) (unpublished : shared.published ≡ []) (published : more.published ≡ all_known (pool_view pool_seat).published) (seen : All (Contains (all_known (pool_view pool_seat).seen)) more.copied)
    (same : after.least ≡ least_offer (view_of seat).offers) (low : (view_of seat).least ≤ floor after) where
  work-is : (done : List Done) → IsHandClause old new done → IsLogClause split fuel (held bound shared before) (held after more log) done → IsRowsClause split (held bound shared before) (held after more log) done →
      IsWorkOf split fuel new seat pool_seat log done
  work-is done h l r = record {
    at_end = h.at_end;
    given = h.given ∙ ap (λ (xs : List ℕ). xs ++ ids_of done) fresh;
    copied = more.copied;
    seen = seen;
    end = record {
      good = subst (λ rows. IsGoodLog split.instance (more.copied ++ rows) log.lines log.segments) published l.good;
      home = subst (λ rows. AreHome rows log.segments) (sym (r.published ∙ ap (λ (xs : List KnownRow). xs ++ r.rows) unpublished) ∙ published)
          (subst (AreHome r.rows) (sym (r.segments ∙ ap (λ (xs : List Segment). xs ++ r.gained) segmentless)) r.home);
      plain = subst (All IsBare) (sym (l.lines.are ∙ ap (λ (xs : List LogLine). xs ++ l.lines.more) lineless)) l.lines.plain;
    };
    right = l.right kept_right;
    kept = subst (IsLeastOffered log.best) same l.least;
    branches = (let none : branches_in before.lines ≡ 0 = ap branches_in lineless in omega (arith, none, l.branches));
    each = All-weaker (IsJobDone split fuel more.copied log.lines (floor after)) (IsJobDone split fuel more.copied log.lines (view_of seat).least)
        (λ d one. done-grows split fuel more.copied more.copied log.lines log.lines (floor after) (view_of seat).least d (All-contains_itself more.copied) (gains-none log.lines) low one) done l.each;
  }

  pub works-if : (result : Result (Vec Done Global) AllocError) → IfOk result (λ done. IsHandClause old new done.items) → IfOk result (λ done. IsLogClause split fuel (held bound shared before) (held after more log) done.items) →
      IfOk result (λ done. IsRowsClause split (held bound shared before) (held after more log) done.items) → IfOk result (λ done. IsWorkOf split fuel new seat pool_seat log done.items)
  works-if (Ok done) h l r = work-is done.items h l r
  works-if (Err e) h l r = tt
