use Rattle.std.proofs.Common.{slice_index, sym, arith}
use Rattle.fapp_model.proofs.CostParts.{sum_under_more, sum_under_none}
use Rattle.fapp_model.proofs.counts.sum_under.Goals as goal

pub loop-level-init : goal.loop-level-init
loop-level-init c = (sym (sum_under_none (slice_index c.args.counts.now)), omega arith)

pub loop-level-preserved : goal.loop-level-preserved
loop-level-preserved c =
    let few = c.requires.few c.loop-level.level (omega arith) in
    let more = sum_under_more (slice_index c.args.counts.now) c.loop-level.level in
    (omega arith, omega arith)
