use Rattle.std.proofs.Common.{length, arith}
use Rattle.fapp_model.specs.search.Jobs.{prefixes}
use Rattle.fapp_plan.specs.Outcomes.{refuted_at, refuted_everywhere}
use Rattle.fapp_plan.proofs.Refuted.{least-reached}
use Rattle.fapp_plan.proofs.collected.Collected.first_open.Goals as goal

pub unreachable-requires : goal.unreachable-requires
unfolding refuted_everywhere
unreachable-requires c =
    let s = refuted_at c.args.plan.now.instance c.args.self.now in
    let least = least-reached s (length (prefixes c.args.plan.now.instance c.args.plan.now.split)) (omega (arith, c.prefix_count-place-end.ensures.count, c.prefix_count-place-end.ensures.some)) in
    let inside = least.1 in
    let high = c.loop-place.invariant least.0 (omega (arith, c.prefix_count-place-end.ensures.count)) in
    omega (arith, least.2, high, c.requires.«open»)
