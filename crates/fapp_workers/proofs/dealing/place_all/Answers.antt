use Rattle.std.proofs.Common.{◌≡◌, [], ◌∷◌, ◌++◌, length, All, Ok, Some, sym, ap, ◌∙◌, subst, arith}
use Rattle.std.proofs.lemmas.List.{length-append, map-append}
use Rattle.std.proofs.lemmas.List.Elements.{All-pop, All-push}
use Rattle.std.proofs.lemmas.List.Sums.{sum_by_push}
use Rattle.fapp_model.specs.Levels.{levels_of}
use Rattle.best_word.specs.declared.seat.BestSeat.{BestSeat}
use Rattle.best_word.specs.Seats.{view_of, shares_of, IsNewSeat, IsSeatOf}
use Rattle.nogood_pool.specs.declared.seat.PoolSeat.{PoolSeat}
use Rattle.nogood_pool.specs.Dealt.{shares_of as pool_shares}
use Rattle.nogood_pool.specs.Seats.{view_of as pool_view, IsSeatOf as IsPoolSeatOf}
use Rattle.best_word.specs.declared.seat.BestWord.{BestWord}
use Rattle.nogood_pool.specs.declared.seat.Pool.{Pool}
use Rattle.fapp_plan.specs.Plans.{Split}
use Rattle.search_log.specs.Logs.{empty_log}
use Rattle.search_log.specs.LogStates.{LogState}
use Rattle.fapp_workers.specs.declared.place.Place.{Place}
use Rattle.fapp_workers.specs.Begun.{IsFresh}
use Rattle.fapp_workers.specs.WorkerPlaces.{IsSeated, IsUnpublished, hands_of, pool_seats_of, seats_of}
use Rattle.fapp_workers.proofs.dealing.place_all.Goals as goal

-- an empty log keeps what a new seat offered, which is nothing
seated-by : (split : Split) (word : BestWord) (pool : Pool) (place : Place) → IsSeatOf word place.seat → IsNewSeat (levels_of split.instance) (view_of place.seat) → IsPoolSeatOf pool place.pool_seat → IsUnpublished split.instance place.pool_seat →
    place.log ≡ empty_log → IsSeated split word pool place
seated-by split word pool place own new pool_own pool_new log = record {
  seat = own;
  levels = new.same_levels;
  pool_seat = pool_own;
  unpublished = pool_new;
  lines = ap (λ (l : LogState). l.lines) log;
  segments = ap (λ (l : LogState). l.segments) log;
  kept = rw (log, new.offers) tt;
  right = rw log tt;
}

pub loop-hand-preserved : goal.loop-hand-preserved
loop-hand-preserved c =
    let was = c.loop-hand.invariant in
    let word = c.args.word.now in
    let pool = c.args.pool.now in
    let split = c.args.plan.now in
    let places = c.loop-hand.places.items in
    let seats = c.loop-hand.seats.items in
    let rest = c.pop.new.self.items in
    let seat = c.in-Some-pop.seat in
    let e = c.in-Some-pop.ensures.items in
    let pool_seats = c.loop-hand.pool_seats.items in
    let pool_rest = c.pop-in-loop-hand.new.self.items in
    let pool_seat = c.in-Some-pop-2.pool_seat in
    let pool_e = c.in-Some-pop-2.ensures.items in
    let place : Place = record { hand = c.in-Some.hand; seat = seat; pool_seat = pool_seat; log = c.new.result; done = Ok c.new-in-loop-hand.result } in
    let items : c.push.new.self.items ≡ places ++ place ∷ [] = c.in_ok-push.ensures.items in
    let own = All-pop (IsSeatOf word) seats rest (Some seat) e was.own in
    let new = All-pop (λ (s : BestSeat). IsNewSeat (levels_of split.instance) (view_of s)) seats rest (Some seat) e was.new in
    let pool_own = All-pop (IsPoolSeatOf pool) pool_seats pool_rest (Some pool_seat) pool_e was.pool_own in
    let pool_new = All-pop (IsUnpublished split.instance) pool_seats pool_rest (Some pool_seat) pool_e was.pool_new in
    let longer = length-append c.loop-hand.yielded (c.in-Some.hand ∷ []) in
    record {
      hands = ap hands_of items ∙ (map-append (λ (p : Place). p.hand) places (place ∷ []) ∙ ap (λ hs. hs ++ c.in-Some.hand ∷ []) was.hands);
      fresh = subst (All (IsFresh (levels_of split.instance))) (sym items)
          (All-push (IsFresh (levels_of split.instance)) places place was.fresh (record { levels_are = new.1.same_levels; offers = new.1.offers; log = c.new.ensures }));
      seated = subst (All (IsSeated split word pool)) (sym items)
          (All-push (IsSeated split word pool) places place was.seated (seated-by split word pool place own.1 new.1 pool_own.1 pool_new.1 c.new.ensures));
      count = (let w = was.count in let l = ap length e ∙ length-append rest (seat ∷ []) in omega (arith, w, l, longer));
      pool_count = (let w = was.pool_count in let l = ap length pool_e ∙ length-append pool_rest (pool_seat ∷ []) in omega (arith, w, l, longer));
      own = own.0;
      new = new.0;
      pool_own = pool_own.0;
      pool_new = pool_new.0;
      shares = (let w = was.shares in
          let p = ap shares_of e ∙ sum_by_push (λ (s : BestSeat). (view_of s).share) rest seat in
          let q = ap (λ ps. shares_of (seats_of ps)) items ∙ (ap shares_of (map-append (λ (x : Place). x.seat) places (place ∷ [])) ∙ sum_by_push (λ (s : BestSeat). (view_of s).share) (seats_of places) seat) in omega (arith, w, p, q));
      pool_shares = (let w = was.pool_shares in
          let p = ap pool_shares pool_e ∙ sum_by_push (λ (s : PoolSeat). (pool_view s).share) pool_rest pool_seat in
          let q = ap (λ ps. pool_shares (pool_seats_of ps)) items ∙ (ap pool_shares (map-append (λ (x : Place). x.pool_seat) places (place ∷ [])) ∙ sum_by_push (λ (s : PoolSeat). (pool_view s).share) (pool_seats_of places) pool_seat) in omega (arith, w, p, q));
    }
