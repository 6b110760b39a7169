use Rattle.std.proofs.Common.{rules, arith, ap}
use Rattle.steal_ring.proofs.RingRule.{joins, has_part}
use Rattle.steal_ring.proofs.seat.Ring.join.Goals as goal

pub join_seat-requires : goal.join_seat-requires
join_seat-requires c =
    let sizes = c.args.self.now.sizes in
    let some = c.args.self.now.some in
    (search rules, search rules, search rules, omega arith, joins _ _ _ _ _ c.args.seat.now.unspent c.args.other.unspent)

pub load-requires : goal.load-requires
load-requires c =
    let sizes = c.args.self.now.sizes in
    let some = c.args.self.now.some in
    let is = c.join_seat.ensures.2 in
    (search rules, omega arith, has_part _ _ _ _ (ap (λ m. m.0.spent) is))
