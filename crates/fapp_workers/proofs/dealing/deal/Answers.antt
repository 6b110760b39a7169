use Rattle.std.proofs.Common.{◌+◌, length, ap, ◌∙◌, arith, rules}
use Rattle.std.proofs.lemmas.List.{length-map}
use Rattle.nogood_pool.specs.Dealt.{shares_of as pool_shares}
use Rattle.nogood_pool.specs.Seats.{view_of as pool_view}
use Rattle.steal_ring.specs.Hands.{shares_of}
use Rattle.fapp_workers.specs.declared.place.Place.{Place}
use Rattle.fapp_workers.proofs.Seating.{stand-all}
use Rattle.fapp_workers.proofs.dealing.deal.Goals as goal

pub returns-clause-dealt : goal.returns-clause-dealt
returns-clause-dealt c =
    let places = c.in_ok-places.places.items in
    let hands = c.in_ok-ring.hands.items in
    let are = c.in_ok-places.ensures.hands ∙ c.in_ok-fresh.ensures.hands in
    let kept = c.in_ok-pool_seats.ensures.kept in
    record {
      jobs = search rules;
      count = omega (arith, ap length are, length-map places (λ (p : Place). p.hand), c.in_ok-ring.ensures.workers);
      stand = stand-all c.args.plan.now c.in_ok-ring.ring c.in_ok-word.word c.in_ok-pool.pool places hands are c.in_ok-ring.ensures.hands.0 c.in_ok-ring.ensures.new c.in_ok-places.ensures.seated;
      hands = search rules;
      hand_shares = ap shares_of are ∙ c.in_ok-ring.ensures.shares;
      seat_shares = c.in_ok-places.ensures.shares ∙ (c.in_ok-fresh.ensures.shares ∙ c.in_ok-word.ensures.shares);
      first = search rules;
      published = search rules;
      placed = c.in_ok-placed.ensures.placed;
      pool_shares = ap (λ n. (pool_view c.split_seats.new.seat).share + n) (ap pool_shares c.in_ok-places.ensures.pool_seats ∙ c.in_ok-fresh.ensures.pool_shares) ∙ c.in_ok-pool_seats.ensures.shares;
    }
