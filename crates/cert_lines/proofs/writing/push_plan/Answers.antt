use Rattle.std.proofs.Common.{arith}
use Rattle.cert_lines.proofs.Texts.{plan_pushed}
use Rattle.cert_lines.proofs.writing.push_plan.Goals as goal

pub loop-place-preserved : goal.loop-place-preserved
loop-place-preserved c =
    plan_pushed c.args.paths.now c.args.plan.now c.loop-place.place c.index-paths-place.result _ c.args.out.now.items c.loop-place.out.items c.push_choice.new.out.items (omega arith) (omega arith) c.index-paths-place.is c.loop-place.invariant c.in_ok-push_choice.ensures
