use Rattle.std.proofs.Common.{sym, take, ◌∙◌}
use Rattle.cert_lines.specs.acceptance.LineFaults.{delete_fault}
use Rattle.cert_check.proofs.Firsts.{first_at, first_more}
use Rattle.cert_check.proofs.cites.deletes_fault.Goals as goal

pub returns-in-Some : goal.returns-in-Some
returns-in-Some c = sym (first_at (delete_fault (take c.args.scene.n c.args.scene.lines.now)) c.args.numbers.now c.loop-number.number-index 0 c.in-Some.cause c.loop-number-test.true c.loop-number.invariant (sym c.delete_fault.ensures ∙ c.in-Some.is))

pub loop-number-preserved : goal.loop-number-preserved
loop-number-preserved c = first_more (delete_fault (take c.args.scene.n c.args.scene.lines.now)) c.args.numbers.now c.loop-number.number-index 0 c.loop-number-test.true c.loop-number.invariant (sym c.delete_fault.ensures ∙ c.in_default.is)
