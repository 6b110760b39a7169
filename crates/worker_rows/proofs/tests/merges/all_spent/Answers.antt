use Rattle.std.proofs.Common.{◌≡◌, arith}
use Rattle.worker_rows.proofs.SpentLaws.{none-spent, one-spent}
use Rattle.worker_rows.proofs.tests.merges.all_spent.Goals as goal

pub loop-id-init : goal.loop-id-init
loop-id-init c = none-spent _ _ c.in_ok-collected.ensures

pub loop-id-preserved : goal.loop-id-preserved
loop-id-preserved c = one-spent _ c.loop-id.id c.loop-id.collected c.put.new.self (omega (arith, c.loop-id-test.true, c.job_count-id-end.ensures)) c.loop-id.invariant c.put.ensures
