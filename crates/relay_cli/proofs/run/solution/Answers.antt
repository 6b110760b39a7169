use Rattle.fapp_run.specs.declared.reply.TheConstants.{MAX_INPUT}
use Rattle.relay_cli.proofs.RelayRuns.{all_dropped}
use Rattle.relay_cli.proofs.run.solution.Goals as goal

pub returns-in-Ok-clause-reads : goal.returns-in-Ok-clause-reads
returns-in-Ok-clause-reads g c =
    let read = c.in-Ok.ensures in
    all_dropped (g.S.Source.moment c.args.source.now).left (g.S.Source.moment c.read_all.new.source).left c.in-Ok.bytes.items MAX_INPUT read.0 read.1
