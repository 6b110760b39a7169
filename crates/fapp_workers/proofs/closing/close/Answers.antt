use Rattle.std.proofs.Common.{All, sym, subst}
use Rattle.std.proofs.lemmas.List.Elements.{All-map}
use Rattle.best_word.specs.Seats.{IsSeatOf}
use Rattle.nogood_pool.specs.Seats.{IsSeatOf as IsPoolSeatOf}
use Rattle.steal_ring.specs.Hands.{IsHandDone as IsAtEnd, IsHandOf}
use Rattle.fapp_workers.specs.declared.place.Place.{Place}
use Rattle.fapp_workers.proofs.Ending.{all-at-end}
use Rattle.fapp_workers.proofs.closing.close.Goals as goal

pub close-requires-clause-own : goal.close-requires-clause-own
close-requires-clause-own c = subst (All (IsHandOf c.args.ring)) (sym c.in_ok-parts.ensures.hands) (All-map (IsHandOf c.args.ring) (λ (p : Place). p.hand) c.args.places.items c.requires.hands)

pub close-requires-clause-done : goal.close-requires-clause-done
close-requires-clause-done c = subst (All IsAtEnd) (sym c.in_ok-parts.ensures.hands) (all-at-end _ c.args.places.items c.in_ok-parts.ensures.works c.requires.finished)

pub close_seats-requires-clause-own : goal.close_seats-requires-clause-own
close_seats-requires-clause-own c = subst (All (IsPoolSeatOf c.args.pool)) (sym c.in_ok-parts.ensures.pool_seats) (All-map (IsPoolSeatOf c.args.pool) (λ (p : Place). p.pool_seat) c.args.places.items c.requires.pool_seats.1)

pub close_seats-requires-2-clause-own : goal.close_seats-requires-2-clause-own
close_seats-requires-2-clause-own c = subst (All (IsSeatOf c.args.word)) (sym c.in_ok-parts.ensures.seats) (All-map (IsSeatOf c.args.word) (λ (p : Place). p.seat) c.args.places.items c.requires.seats)
