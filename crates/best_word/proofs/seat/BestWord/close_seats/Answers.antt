use Rattle.std.proofs.Common.{arith, ◌≡◌, ℕ, ◌+◌, ◌-◌, take, List, [], ◌∷◌, ◌++◌, sum_by, Some, ap, sym, ◌∙◌, subst}
use Rattle.std.proofs.lemmas.List.Elements.{All-pop}
use Rattle.std.proofs.lemmas.List.Sums.{sum_by_push}
use Rattle.best_word.specs.declared.seat.BestSeat.{BestSeat}
use Rattle.best_word.specs.Seats.{view_of, IsSeatOf}
use Rattle.best_word.proofs.Joining.{IsJoined, joined-all, joined-first, joined-more}
use Rattle.best_word.proofs.seat.BestWord.close_seats.Goals as goal

popped : (f : BestSeat → ℕ) (seats rest : List BestSeat) (s : BestSeat) → seats ≡ rest ++ s ∷ [] → sum_by f seats ≡ sum_by f rest + f s
popped f seats rest s e = ap (sum_by f) e ∙ sum_by_push f rest s

pub loop-seat-init : goal.loop-seat-init
loop-seat-init c =
    let seat = c.in-Some.all in
    let rest = c.pop.new.self.items in
    let seats = c.args.seats.items in
    let e = c.in-Some.ensures.items in
    let own = All-pop (IsSeatOf c.args.self) seats rest (Some seat) e c.requires.own in
    record {
      owns = own.0;
      first = own.1;
      shares = let p = popped (λ (s : BestSeat). (view_of s).share) seats rest seat e in let s = c.requires.shares in omega arith;
      joined = joined-first seats rest seat e;
    }

pub join-requires : goal.join-requires
join-requires c = (c.loop-seat.invariant.first, (All-pop (IsSeatOf c.args.self) c.loop-seat.seats.items c.pop-in-loop-seat.new.self.items (Some c.in-Some-pop.seat) c.in-Some-pop.ensures.items c.loop-seat.invariant.owns).1)

pub loop-seat-preserved : goal.loop-seat-preserved
loop-seat-preserved c =
    let was = c.loop-seat.invariant in
    let seat = c.in-Some-pop.seat in
    let rest = c.pop-in-loop-seat.new.self.items in
    let seats = c.loop-seat.seats.items in
    let e = c.in-Some-pop.ensures.items in
    let view = c.join.ensures.view in
    record {
      owns = (All-pop (IsSeatOf c.args.self) seats rest (Some seat) e was.owns).0;
      first = sym c.join.ensures.same ∙ was.first;
      shares = let p = popped (λ (s : BestSeat). (view_of s).share) seats rest seat e in let s = was.shares in let w = ap (λ x. x.share) view in omega arith;
      joined = subst (IsJoined c.args.seats.items rest) (sym view) (joined-more c.args.seats.items seats rest seat (view_of c.loop-seat.all) e was.joined);
    }

pub returns : goal.returns
returns c =
    let pop = c.in_default-pop.ensures in
    let empty : c.loop-seat.seats.items ≡ [] = pop.items ∙ ap (λ (xs : List BestSeat). xs ++ []) (pop.rest ∙ ap (λ (n : ℕ). take (n - 1) c.loop-seat.seats.items) pop.cases.0) in
    joined-all c.args.seats.items (view_of c.loop-seat.all) c.close.result.code
    (subst (λ xs. IsJoined c.args.seats.items xs (view_of c.loop-seat.all)) empty c.loop-seat.invariant.joined) c.close.ensures
