use Rattle.std.proofs.Common.{arith, [], ◌∷◌, All, length, sum_by, ap, sym, ◌∙◌, subst}
use Rattle.std.proofs.lemmas.List.{length-append}
use Rattle.std.proofs.lemmas.List.Elements.{All-push}
use Rattle.std.proofs.lemmas.List.Sums.{sum_by_push}
use Rattle.nogood_pool.specs.declared.seat.PoolSeat.{PoolSeat}
use Rattle.nogood_pool.specs.declared.view.PoolView.{PoolView}
use Rattle.nogood_pool.specs.Dealt.{IsSplitFrom}
use Rattle.nogood_pool.specs.Seats.{view_of, IsSeatOf}
use Rattle.nogood_pool.proofs.Uniting.{kept-on, seat-on, split-on}
use Rattle.seat_laws.proofs.Dealing.{halve}
use Rattle.nogood_pool.proofs.seat.Pool.split_seats.Goals as goal

pub split-requires-clause-share : goal.split-requires-clause-share
split-requires-clause-share c = (halve _ c.loop.counter c.loop.invariant.share (let most = c.requires.holders in let t = c.loop-test.true in omega arith)).0

pub loop-preserved : goal.loop-preserved
loop-preserved c =
    let was = c.loop.invariant in
    let seats = c.loop.seats.items in
    let seat : PoolSeat = c.split.result in
    let items = c.push_reserved.ensures.items in
    let v : PoolView = view_of c.args.seat.now in
    let w : PoolView = view_of c.loop.seat in
    let kept = c.split.ensures.kept in
    let given = c.split.ensures.given in
    let half = halve w.share c.loop.counter was.share (let most = c.requires.holders in let t = c.loop-test.true in omega arith) in
    record {
      own = seat-on c.args.self.now c.loop.seat c.split.new.seat was.own c.split.ensures.same.0.0 (ap (λ (u : PoolView). u.rows) kept) (ap (λ (u : PoolView). u.instance) kept);
      same = (c.split.ensures.same.0.0 ∙ was.same.0, c.split.ensures.same.0.1 ∙ was.same.1);
      kept = kept-on v w _ c.args.seat.now.unspent was.kept kept;
      share = ap (λ (u : PoolView). u.share) kept ∙ half.1;
      room = ((let l = was.room.0 in let len = ap length items in omega (arith, length-append seats (seat ∷ []))), (let r = was.room.1 in let k = c.push_reserved.ensures.capacity in omega arith));
      owns = subst (All (IsSeatOf c.args.self.now)) (sym items) (All-push (IsSeatOf c.args.self.now) seats seat was.owns c.split.ensures.same.1);
      news = subst (All (λ (s : PoolSeat). IsSplitFrom v (view_of s))) (sym items) (All-push (λ (s : PoolSeat). IsSplitFrom v (view_of s)) seats seat was.news (split-on v w (view_of seat) was.kept given));
      sum = let s = was.sum in let p = ap (sum_by (λ (x : PoolSeat). (view_of x).share)) items ∙ sum_by_push (λ (x : PoolSeat). (view_of x).share) seats seat in
          let a = ap (λ (u : PoolView). u.share) kept in let b = ap (λ (u : PoolView). u.share) given in let two = half.0 in omega arith;
    }
