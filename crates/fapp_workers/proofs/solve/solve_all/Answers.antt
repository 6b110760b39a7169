use Rattle.std.proofs.Common.{◌+◌, ◌<◌, length, ◌∙◌, ap, sym, subst, arith}
use Rattle.fapp_model.specs.Instances.{IsInstance}
use Rattle.nogood_pool.specs.Seats.{view_of as pool_view}
use Rattle.steal_ring.specs.Hands.{IsDealt}
use Rattle.search_log.specs.NumberedRows.{numbered_rows}
use Rattle.fapp_workers.specs.Closings.{IsClosedRun}
use Rattle.fapp_workers.specs.WorkerPlaces.{hands_of}
use Rattle.fapp_workers.specs.Solved.{works_logs}
use Rattle.fapp_workers.proofs.Ending.{count-same}
use Rattle.fapp_workers.proofs.Beginning.{if-some}
use Rattle.fapp_workers.specs.Begun.{IsStartUsed, OffersFirst}
use Rattle.fapp_workers.proofs.Final.{solved, some-work, start-used}
use Rattle.fapp_workers.proofs.Solving.{all-finished, hand-shares, hands-own, pool-seat-shares, pool-seats-own, seat-shares, seats-own, some-place, still-dealt}
use Rattle.fapp_workers.proofs.solve.solve_all.Goals as goal

pub close-requires-clause-hands : goal.close-requires-clause-hands
close-requires-clause-hands g c =
    let d = c.in_ok-ring.field-0 in
    hands-own c.args.plan.now c.args.settings.now.fuel d.ring d.word d.pool d.places.items c.in_ok-places.places.items c.in_ok-places.ensures.count c.in_ok-places.ensures.each

pub close-requires-clause-seats : goal.close-requires-clause-seats
close-requires-clause-seats g c =
    let d = c.in_ok-ring.field-0 in
    seats-own c.args.plan.now c.args.settings.now.fuel d.ring d.word d.pool d.places.items c.in_ok-places.places.items c.in_ok-places.ensures.count c.in_ok-places.ensures.each

pub close-requires-clause-pool_seats : goal.close-requires-clause-pool_seats
close-requires-clause-pool_seats g c =
    let d = c.in_ok-ring.field-0 in
    (c.in_ok-ring.ensures.dealt.first, pool-seats-own c.args.plan.now c.args.settings.now.fuel d.ring d.word d.pool d.places.items c.in_ok-places.places.items c.in_ok-places.ensures.count c.in_ok-places.ensures.each)

pub close-requires-clause-dealt : goal.close-requires-clause-dealt
close-requires-clause-dealt g c =
    let d = c.in_ok-ring.field-0 in
    let new = c.in_ok-places.places.items in
    let dealt : IsDealt d.ring.jobs (hands_of d.places.items) = subst (λ n. IsDealt n (hands_of d.places.items)) (sym c.in_ok-ring.ensures.dealt.jobs) c.in_ok-ring.ensures.dealt.hands in
    still-dealt c.args.plan.now c.args.settings.now.fuel d.ring d.word d.pool d.places.items new c.in_ok-places.ensures.count c.in_ok-places.ensures.each dealt
    (some-place new (omega (arith, c.in_ok-places.ensures.count, c.in_ok-ring.ensures.dealt.count, c.requires.settings.some_workers)))

pub close-requires-clause-hand_shares : goal.close-requires-clause-hand_shares
close-requires-clause-hand_shares g c =
    let d = c.in_ok-ring.field-0 in
    hand-shares c.args.plan.now c.args.settings.now.fuel d.ring d.word d.pool d.places.items c.in_ok-places.places.items c.in_ok-places.ensures.count c.in_ok-places.ensures.each ∙ c.in_ok-ring.ensures.dealt.hand_shares

pub close-requires-clause-seat_shares : goal.close-requires-clause-seat_shares
close-requires-clause-seat_shares g c =
    let d = c.in_ok-ring.field-0 in
    seat-shares c.args.plan.now c.args.settings.now.fuel d.ring d.word d.pool d.places.items c.in_ok-places.places.items c.in_ok-places.ensures.count c.in_ok-places.ensures.each ∙ c.in_ok-ring.ensures.dealt.seat_shares

pub close-requires-clause-pool_shares : goal.close-requires-clause-pool_shares
close-requires-clause-pool_shares g c =
    let d = c.in_ok-ring.field-0 in
    ap (λ n. (pool_view d.first).share + n)
    (pool-seat-shares c.args.plan.now c.args.settings.now.fuel d.ring d.word d.pool d.places.items c.in_ok-places.places.items c.in_ok-places.ensures.count c.in_ok-places.ensures.each)
    ∙ c.in_ok-ring.ensures.dealt.pool_shares

pub close-requires-clause-finished : goal.close-requires-clause-finished
close-requires-clause-finished g c =
    let d = c.in_ok-ring.field-0 in
    all-finished c.args.plan.now c.args.settings.now.fuel d.ring d.word d.pool d.places.items c.in_ok-places.places.items c.in_ok-places.ensures.count c.in_ok-places.ensures.each

pub returns-clause-solved : goal.returns-clause-solved
returns-clause-solved g c =
    let split = c.args.plan.now in
    let fuel = c.args.settings.now.fuel in
    let workers = c.args.settings.now.workers in
    let d = c.in_ok-ring.field-0 in
    let old = d.places.items in
    let new = c.in_ok-places.places.items in
    let works = c.in_ok-works.works.items in
    let some : 0 < length new = omega (arith, c.in_ok-places.ensures.count, c.in_ok-ring.ensures.dealt.count, c.requires.settings.some_workers) in
    let here = subst (λ n. IsClosedRun n (pool_view d.first) new works c.in_ok-works.least.code) c.in_ok-ring.ensures.dealt.jobs c.in_ok-works.ensures in
    solved split fuel workers (subst IsInstance c.instance-valid.ensures.value c.instance-valid.ensures.valid) d.ring d.word d.pool (pool_view d.first)
    (numbered_rows c.args.first_rows.now) c.in_ok-ring.ensures.dealt.published old new c.in_ok-places.ensures.count c.in_ok-ring.ensures.dealt.count c.in_ok-ring.ensures.dealt.stand
    c.in_ok-places.ensures.each works c.in_ok-works.least.code here (some-place new some) (some-work works (omega (arith, count-same works new here.kept, some)))

pub returns-clause-started : goal.returns-clause-started
returns-clause-started g c =
    let split = c.args.plan.now in
    let instance = split.instance in
    let d = c.in_ok-ring.field-0 in
    let new = c.in_ok-places.places.items in
    let works = c.in_ok-works.works.items in
    let some : 0 < length new = omega (arith, c.in_ok-places.ensures.count, c.in_ok-ring.ensures.dealt.count, c.requires.settings.some_workers) in
    let here = subst (λ n. IsClosedRun n (pool_view d.first) new works c.in_ok-works.least.code) c.in_ok-ring.ensures.dealt.jobs c.in_ok-works.ensures in
    if-some c.args.start (λ s. OffersFirst instance s.now d.places.items) (λ s. IsStartUsed instance s.now (works_logs works) c.in_ok-works.least.code)
    (λ s offers. start-used split c.args.settings.now.fuel c.args.settings.now.workers (subst IsInstance c.instance-valid.ensures.value c.instance-valid.ensures.valid) d.ring d.word d.pool
    (pool_view d.first) (numbered_rows c.args.first_rows.now) c.in_ok-ring.ensures.dealt.published d.places.items new c.in_ok-places.ensures.count c.in_ok-ring.ensures.dealt.count
    c.in_ok-ring.ensures.dealt.stand c.in_ok-places.ensures.each works c.in_ok-works.least.code here (some-place new some) s.now some offers)
    c.in_ok-ring.ensures.started
