use Rattle.std.proofs.Common.{None, inl, refl, subst}
use Rattle.std.specs.Prelude.{map, string_bytes}
use Rattle.answer_writer.specs.declared.status.Status.TheVariants.{Usage}
use Rattle.answer_writer.specs.Refusals.{refusal_line}
use Rattle.relay_cli.specs.Words.{ReadsRelay}
use Rattle.relay_cli.proofs.RelayRuns.{named_run, run_completes, written_run}
use Rattle.relay_cli.proofs.run.run_relay.Goals as goal

pub returns-in-Ok-Some-clause-run : goal.returns-in-Ok-Some-clause-run
returns-in-Ok-Some-clause-run g c =
    let words = c.args.words.now in
    let named = subst (ReadsRelay (map string_bytes words)) c.in-Ok-Some.field-0-is c.in-Ok-Some.ensures.words in
    named_run words (g.S.Source.moment c.args.source.now) (g.S.Source.moment c.solve_and_relay.new.source) (g.K.Sink.moment c.args.sink.now) (g.K.Sink.moment c.solve_and_relay.new.sink)
    c.in-Ok-Some.options c.solve_and_relay.result named c.solve_and_relay.ensures.reads c.solve_and_relay.ensures.run

pub returns-in-Ok-Some-clause-completes : goal.returns-in-Ok-Some-clause-completes
returns-in-Ok-Some-clause-completes g c =
    run_completes c.args.words.now (g.S.Source.moment c.args.source.now) (g.S.Source.moment c.solve_and_relay.new.source) (g.K.Sink.moment c.args.sink.now) (g.K.Sink.moment c.solve_and_relay.new.sink)
    c.solve_and_relay.result (returns-in-Ok-Some-clause-run g c)

pub returns-in-Ok-None-clause-run : goal.returns-in-Ok-None-clause-run
returns-in-Ok-None-clause-run g c =
    let words = c.args.words.now in
    let source = g.S.Source.moment c.args.source.now in
    let none = subst (ReadsRelay (map string_bytes words)) c.in-Ok-None.field-0-is c.in-Ok-None.ensures.words in
    written_run words source source (g.K.Sink.moment c.args.sink.now) (g.K.Sink.moment c.refused.new.sink)
    (refusal_line Usage) Usage c.refused.result (None, none, (refl, refl, refl)) (inl refl) c.refused.ensures

pub returns-in-Ok-None-clause-completes : goal.returns-in-Ok-None-clause-completes
returns-in-Ok-None-clause-completes g c =
    let source = g.S.Source.moment c.args.source.now in
    run_completes c.args.words.now source source (g.K.Sink.moment c.args.sink.now) (g.K.Sink.moment c.refused.new.sink) c.refused.result (returns-in-Ok-None-clause-run g c)
