use Rattle.std.proofs.Common.{length, sym, arith, ◌-◌}
use Rattle.search_log.proofs.Ended.{ended-at}
use Rattle.search_log.proofs.log.end_of.Goals as goal

pub returns-in-Some : goal.returns-in-Some
returns-in-Some c =
    let item = c.in-Some.ensures.item in
    sym (ended-at c.args.segments.now c.in-Some.segment.now (length c.args.segments.now - 1) (omega (arith, item.3.0)) (sym c.in-Some.ensures.value))
