use Rattle.std.proofs.Common.{◌≡◌, [], ap, ◌∙◌}
use Rattle.nogood_pool.specs.declared.view.PoolView.{PoolView}
use Rattle.nogood_pool.specs.Examples.{crowded}
use Rattle.nogood_pool.specs.Seats.{view_of}
use Rattle.pool_rows.proofs.Crowded.{two-literals}
use Rattle.pool_rows.proofs.tests.two_share_rows.Goals as goal

pub offer-requires-clause-lits : goal.offer-requires-clause-lits
offer-requires-clause-lits g c = two-literals

pub offer-requires-2-clause-crowded : goal.offer-requires-2-clause-crowded
offer-requires-2-clause-crowded g c =
    let given = ap (λ (v : PoolView). v.instance) c.split-other.ensures.given in
    let first = ap (λ (v : PoolView). v.instance) c.in_ok-pool.ensures.1 in
    let right : (view_of c.in_ok-right.right.seat).instance ≡ crowded [] = c.in_ok-right.ensures ∙ (given ∙ (first ∙ c.in_ok-instance.ensures)) in
    (c.lookup-2.ensures.serves (crowded [])).0 ((c.lookup.ensures.serves (crowded [])).0 right)
