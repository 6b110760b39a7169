use Rattle.std.proofs.Common.{arith, ◌≡◌, ◌+◌, List, [], ◌∷◌, ◌++◌, map, Some, ap, sym, ◌∙◌, subst}
use Rattle.std.proofs.lemmas.List.{nil_from_length}
use Rattle.std.proofs.lemmas.List.Elements.{All-pop}
use Rattle.std.proofs.lemmas.List.Sums.{sum_by_push}
use Rattle.nogood_pool.specs.declared.seat.PoolSeat.{PoolSeat}
use Rattle.nogood_pool.specs.declared.view.PoolView.{PoolView}
use Rattle.nogood_pool.specs.Dealt.{shares_of}
use Rattle.nogood_pool.specs.Ends.{ArePooled}
use Rattle.nogood_pool.specs.Seats.{view_of, IsSeatOf}
use Rattle.nogood_pool.proofs.Uniting.{IsTail, seat-on, tail-all, tail-more, tail-one, united-all, united-one}
use Rattle.nogood_pool.proofs.seat.Pool.close_seats.Goals as goal

popped : (seats rest : List PoolSeat) (s : PoolSeat) → seats ≡ rest ++ s ∷ [] → shares_of seats ≡ shares_of rest + (view_of s).share
popped seats rest s e = ap shares_of e ∙ sum_by_push (λ (x : PoolSeat). (view_of x).share) rest s

pub returns-in_default : goal.returns-in_default
returns-in_default c =
    let empty : c.args.seats.items ≡ [] = nil_from_length c.args.seats.items (let none = c.in_default.ensures.cases.0 in omega arith) in
    subst (λ (xs : List PoolSeat). ArePooled (view_of c.args.first ∷ map view_of xs)) (sym empty)
    (united-all (view_of c.args.first ∷ []) (view_of c.args.first) (united-one (view_of c.args.first)) c.close.ensures)

pub loop-seat-init : goal.loop-seat-init
loop-seat-init c =
    let seat = c.in-Some.later in
    let rest = c.pop.new.self.items in
    let seats = c.args.seats.items in
    let e = c.in-Some.ensures.items in
    let own = All-pop (IsSeatOf c.args.self) seats rest (Some seat) e c.requires.own in
    record {
      owns = own.0;
      own = own.1;
      shares = let p = popped seats rest seat e in let s = c.requires.shares in omega arith;
      tail = tail-one seats rest seat e;
    }

pub join-requires : goal.join-requires
join-requires c =
    ((All-pop (IsSeatOf c.args.self) c.loop-seat.seats.items c.pop-in-loop-seat.new.self.items (Some c.in-Some-pop.seat) c.in-Some-pop.ensures.items c.loop-seat.invariant.owns).1, c.loop-seat.invariant.own)

pub loop-seat-preserved : goal.loop-seat-preserved
loop-seat-preserved c =
    let was = c.loop-seat.invariant in
    let seat = c.in-Some-pop.seat in
    let rest = c.pop-in-loop-seat.new.self.items in
    let seats = c.loop-seat.seats.items in
    let e = c.in-Some-pop.ensures.items in
    let view = c.join.ensures.view in
    let owns = All-pop (IsSeatOf c.args.self) seats rest (Some seat) e was.owns in
    record {
      owns = owns.0;
      own = seat-on c.args.self seat c.join.new.seat owns.1 c.join.ensures.same.0 (ap (λ (v : PoolView). v.rows) view) (ap (λ (v : PoolView). v.instance) view);
      shares = let p = popped seats rest seat e in let s = was.shares in let w = ap (λ (v : PoolView). v.share) view in omega arith;
      tail = tail-more c.args.seats.items seats rest seat (view_of c.loop-seat.later) (view_of c.join.new.seat) e view was.tail;
    }

pub returns : goal.returns
returns c =
    let later : PoolView = view_of c.loop-seat.later in
    let empty : c.loop-seat.seats.items ≡ [] = nil_from_length c.loop-seat.seats.items (let none = c.in_default-pop.ensures.cases.0 in omega arith) in
    let tail = subst (λ (xs : List PoolSeat). IsTail c.args.seats.items xs later) empty c.loop-seat.invariant.tail in
    tail-all c.args.seats.items (view_of c.args.first) later (view_of c.join-2.new.seat) c.join-2.ensures.view tail c.close-2.ensures
