use Rattle.std.proofs.Common.{ap, arith}
use Rattle.std.proofs.lemmas.Bool.{both_ways}
use Rattle.fapp_model.specs.search.Partials.{literal}
use Rattle.choice_counts.proofs.Remaining.{away, kept-inside, outside-away}
use Rattle.forward_count.proofs.start.outside_tally.Goals as goal

pub returns-then-is_outside-clause-tally : goal.returns-then-is_outside-clause-tally
returns-then-is_outside-clause-tally c arc arcs =
    let out = c.is_outside.ensures.0 c.if-is_outside.true in
    omega (arith, ap away (outside-away c.args.arcs.now c.args.level arc arcs (literal c.args.path c.args.choice) out))

pub returns-else-is_outside-clause-tally : goal.returns-else-is_outside-clause-tally
returns-else-is_outside-clause-tally c arc arcs =
    let kept = kept-inside c.args.arcs.now c.args.level arc arcs (literal c.args.path c.args.choice) (λ out. both_ways c.is_outside.result c.if-is_outside.false (c.is_outside.ensures.1 out)) in
    omega (arith, ap away kept)
