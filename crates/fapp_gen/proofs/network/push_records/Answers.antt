use Rattle.std.proofs.Common.{◌+◌, ◌-◌, arith}
use Rattle.fapp_gen.specs.Generated.{record_lines}
use Rattle.fapp_gen.proofs.Texts.{lines_more}
use Rattle.fapp_gen.proofs.network.push_records.Goals as goal

pub loop-path-preserved : goal.loop-path-preserved
loop-path-preserved c =
    let path = c.loop-path.path in
    lines_more (record_lines c.args.number) 3 (path - 3) path (path + 1 - 3) c.args.out.now.items c.loop-path.out.items c.push_path_records.new.out.items (omega (arith, c.loop-path.auto.path)) (omega (arith, c.loop-path.auto.path)) c.loop-path.invariant c.in_ok-push_path_records.ensures
