use Rattle.std.proofs.Common.{slice_index, refl}
use Rattle.fapp_model.proofs.CostParts.{cost_above, cost_zero}
use Rattle.fapp_model.proofs.counts.triple_of_counts.Goals as goal

pub returns-then-k-eq0 : goal.returns-then-k-eq0
returns-then-k-eq0 c = cost_zero (slice_index c.args.counts.now) c.args.levels c.clear_level-k.result c.clear_level-k.ensures.clear c.if-k-eq0.true

pub returns : goal.returns
returns c = cost_above (slice_index c.args.counts.now) c.args.levels c.clear_level-k.result _ c.sum_under.result c.clear_level-k.ensures.clear c.if-k-eq0.false refl c.sum_under.ensures
