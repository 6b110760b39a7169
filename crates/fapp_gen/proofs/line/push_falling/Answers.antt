use Rattle.std.proofs.Common.{◌-◌, ◌*◌, arith}
use Rattle.fapp_gen.proofs.Texts.{number_more, falling_done}
use Rattle.fapp_gen.proofs.line.push_falling.Goals as goal

pub loop-level-preserved : goal.loop-level-preserved
loop-level-preserved c =
    number_more (λ level. c.args.first - c.args.step * level) c.loop-level.level c.args.out.now.items c.loop-level.out.items c.push_numbers.new.out.items c.loop-level.invariant c.in_ok-push_numbers.ensures

pub returns : goal.returns
returns c =
    falling_done c.args.first c.args.step c.loop-level.level c.args.out.now.items c.loop-level.out.items (omega (arith, c.loop-level-test.false, c.loop-level.auto.level-end)) c.loop-level.invariant
