use Rattle.std.proofs.Common.{arith, ◌≡◌, ℕ, ◌+◌, ◌-◌, ◌^◌, ◌≤◌, List, [], ◌∷◌, ◌++◌, All, length, sum_by, ap, sym, ◌∙◌, subst}
use Rattle.std.proofs.lemmas.List.{length-append}
use Rattle.std.proofs.lemmas.List.Elements.{All-push}
use Rattle.std.proofs.lemmas.List.Sums.{sum_by_push}
use Rattle.best_word.specs.declared.seat.BestSeat.{BestSeat}
use Rattle.best_word.specs.declared.view.BestView.{BestView}
use Rattle.best_word.specs.Bound.{given_half, kept_half}
use Rattle.best_word.specs.Seats.{view_of, IsNewSeat, IsSeatOf}
use Rattle.seat_laws.proofs.Dealing.{halve}
use Rattle.best_word.proofs.seat.BestWord.with_seats.Goals as goal

kept-new : (levels : ℕ) (v w : BestView) → w ≡ kept_half v → IsNewSeat levels v → IsNewSeat levels w
kept-new levels v w e h = subst (IsNewSeat levels) (sym e) (record { same_levels = h.same_levels; top = h.top; offers = h.offers; found = h.found })

given-new : (levels : ℕ) (v w : BestView) → w ≡ given_half v → IsNewSeat levels v → IsNewSeat levels w
given-new levels v w e h = subst (IsNewSeat levels) (sym e) (record { same_levels = h.same_levels; top = h.top; offers = Rattle.std.proofs.Common.refl; found = Rattle.std.proofs.Common.refl })

pub split-requires-clause-share : goal.split-requires-clause-share
split-requires-clause-share c = (halve _ c.loop.counter c.loop.invariant.share (let w = c.requires.holders.1 in let t = c.loop-test.true in omega arith)).0

pub loop-preserved : goal.loop-preserved
loop-preserved c =
    let was = c.loop.invariant in
    let seats = c.loop.seats.items in
    let seat = c.split.result in
    let items = c.push_reserved.ensures.items in
    let kept = c.split.ensures.kept in
    let given = c.split.ensures.given in
    let same = c.split.ensures.same in
    let half = halve (view_of c.loop.seat).share c.loop.counter was.share (let w = c.requires.holders.1 in let t = c.loop-test.true in omega arith) in
    record {
      own = sym same.0 ∙ was.own;
      new = kept-new c.args.levels (view_of c.loop.seat) _ kept was.new;
      share = ap (λ v. v.share) kept ∙ half.1;
      room = ((let l = was.room.0 in let len = ap length items in omega (arith, length-append seats (seat ∷ []))), (let r = was.room.1 in let k = c.push_reserved.ensures.capacity in omega arith));
      owns = subst (All (IsSeatOf c.in_ok-word.word)) (sym items) (All-push (IsSeatOf c.in_ok-word.word) seats seat was.owns (sym same.1 ∙ was.own));
      news = subst (All (λ (s : BestSeat). IsNewSeat c.args.levels (view_of s))) (sym items) (All-push (λ (s : BestSeat). IsNewSeat c.args.levels (view_of s)) seats seat was.news (given-new c.args.levels (view_of c.loop.seat) _ given was.new));
      sum = let s = was.sum in let p = ap (sum_by (λ (x : BestSeat). (view_of x).share)) items ∙ sum_by_push (λ (x : BestSeat). (view_of x).share) seats seat in
          let a = ap (λ v. v.share) kept in let b = ap (λ v. v.share) given in let two = half.0 in omega arith;
    }

pub returns-clause-new : goal.returns-clause-new
returns-clause-new c =
    let was = c.loop.invariant in
    subst (All (λ (s : BestSeat). IsNewSeat c.args.levels (view_of s))) (sym c.push_reserved-2.ensures.items)
    (All-push (λ (s : BestSeat). IsNewSeat c.args.levels (view_of s)) c.loop.seats.items c.loop.seat was.news was.new)
