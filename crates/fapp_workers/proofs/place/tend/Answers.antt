use Rattle.std.proofs.Common.{Contains, sym, ap, ◌∙◌, subst}
use Rattle.std.proofs.lemmas.List.Elements.{Contains-append_left}
use Rattle.best_word.specs.Seats.{view_of}
use Rattle.nogood_pool.specs.Seats.{view_of as pool_view, IsSeatOf as IsPoolSeatOf}
use Rattle.pool_rows.specs.Copying.{all_known}
use Rattle.pool_rows.specs.PoolRows.{state_of_rows}
use Rattle.fapp_workers.specs.SharedBounds.{least_offer, IsLater}
use Rattle.fapp_workers.specs.States.{state_of}
use Rattle.fapp_workers.proofs.Tending.{works-if}
use Rattle.fapp_workers.proofs.place.tend.Goals as goal

pub returns : goal.returns
returns g c =
    let split = c.args.plan.now in
    let bound = c.new-bound.result in
    let after = c.work-done.new.bound in
    let old_rows = c.in-Ok.rows in
    let rows = c.work-done.new.rows in
    let seat = c.into_seat.result in
    let pool_seat = c.into_seat-2.result in
    let is = c.into_seat.ensures.seat in
    let pool_is = c.into_seat-2.ensures.seat in
    let made = c.in-Ok.ensures.ok in
    let same = c.work-done.ensures.same_rows in
    let stands = c.requires.stands in
    let later : IsLater c.args.place.seat seat = subst (IsLater c.args.place.seat) (sym is) (subst (λ s. IsLater s after.seat) c.new-bound.ensures.seat c.work-done.ensures.later) in
    record {
      hand = c.work-done.ensures.hand.0;
      same_hand = c.work-done.ensures.hand.1;
      seat = sym later.table ∙ stands.seated.seat;
      share = later.share;
      levels = later.levels;
      offered = λ n has. subst (λ offers. Contains offers n) (sym later.offers) (Contains-append_left (view_of c.args.place.seat).offers later.offered n has);
      pool_seat = subst (λ p. IsPoolSeatOf p pool_seat) (same.pool ∙ made.2) c.into_seat-2.ensures.own;
      pool_share = ap (λ s. (pool_view s).share) pool_is ∙ (same.view.share_is ∙ ap (λ s. (pool_view s).share) made.1);
      works = works-if split c.args.fuel (state_of bound) (state_of after) (state_of_rows old_rows) (state_of_rows rows) seat pool_seat c.args.place.hand c.work-done.new.hand c.args.place.log c.work-done.new.log
          stands.nothing stands.seated.lines stands.seated.segments stands.seated.right
          (ap (λ s. all_known (pool_view s).published) made.1 ∙ ap all_known stands.seated.unpublished.none)
          (sym (ap (λ s. all_known (pool_view s).published) pool_is))
          c.into_seat-2.ensures.copied
          (ap (λ s. least_offer (view_of s).offers) (sym is)) c.into_seat.ensures.floor
          c.work-done.result c.work-done.ensures.jobs c.work-done.ensures.log c.work-done.ensures.rows;
    }
