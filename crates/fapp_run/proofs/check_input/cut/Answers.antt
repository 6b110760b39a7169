use Rattle.std.proofs.Common.{sym, ◌∙◌}
use Rattle.fapp_run.proofs.CutLemmas.{one_more}
use Rattle.fapp_run.proofs.check_input.cut.Goals as goal

pub loop-rest-preserved : goal.loop-rest-preserved
loop-rest-preserved c =
    one_more c.args.bytes.now c.loop-rest.rest.now c.first_line.result.0.now c.first_line.result.1.now c.loop-rest.divider c.loop-rest.invariant c.first_line.ensures.cut c.first_line.ensures.after c.first_line.ensures.shorter (sym c.is_divider.ensures ∙ c.if-is_divider.false)
