use Rattle.std.proofs.Common.{inl, subst}
use Rattle.fapp_run.specs.Runs.{TakesWhole}
use Rattle.fapp_run.proofs.RunEnds.{solve_ends, check_ends, gen_ends, demo_ends, accepted_ends, whole_run}
use Rattle.fapp_run.proofs.top.run.Goals as goal

pub returns-in-Ok-write_all-clause-run : goal.returns-in-Ok-write_all-clause-run
returns-in-Ok-write_all-clause-run g c =
    let sink = g.K.Sink.moment c.args.sink.now in
    let sink' = g.K.Sink.moment c.write_all.new.sink in
    whole_run (g.S.Source.moment c.args.source.now) (g.S.Source.moment c.reply_of.new.source) c.in-Ok.reply.text.items c.args.words.now sink sink' c.in-Ok.reply.status
    c.in-Ok.ensures.reply (subst (TakesWhole sink sink') c.deref.ensures.value (c.in-Ok-write_all.ensures.0, c.in-Ok-write_all.ensures.2))

pub returns-in-Ok-write_all-clause-completes : goal.returns-in-Ok-write_all-clause-completes
returns-in-Ok-write_all-clause-completes g c = λ bytes instance options named left short read sound.
    solve_ends c.args.words.now (g.S.Source.moment c.args.source.now) (g.S.Source.moment c.reply_of.new.source) bytes instance c.in-Ok.reply.status c.in-Ok.reply.text.items
    left options named short read sound.0 c.in-Ok.ensures.reply

pub returns-in-Ok-write_all-clause-completes_check : goal.returns-in-Ok-write_all-clause-completes_check
returns-in-Ok-write_all-clause-completes_check g c = λ bytes instance answer options named left short given accepts sound.
    inl (check_ends c.args.words.now (g.S.Source.moment c.args.source.now) (g.S.Source.moment c.reply_of.new.source) bytes instance c.in-Ok.reply.status
    c.in-Ok.reply.text.items left answer options named short given accepts sound.0 c.in-Ok.ensures.reply)

pub returns-in-Ok-write_all-clause-completes_gen : goal.returns-in-Ok-write_all-clause-completes_gen
returns-in-Ok-write_all-clause-completes_gen g c = λ seed named sound.
    inl (gen_ends c.args.words.now (g.S.Source.moment c.args.source.now) (g.S.Source.moment c.reply_of.new.source) c.in-Ok.reply.status c.in-Ok.reply.text.items seed named c.in-Ok.ensures.reply)

pub returns-in-Ok-write_all-clause-completes_demo : goal.returns-in-Ok-write_all-clause-completes_demo
returns-in-Ok-write_all-clause-completes_demo g c = λ seed named sound.
    demo_ends c.args.words.now (g.S.Source.moment c.args.source.now) (g.S.Source.moment c.reply_of.new.source) c.in-Ok.reply.status c.in-Ok.reply.text.items seed named c.in-Ok.ensures.reply

pub returns-in-Ok-write_all-clause-right : goal.returns-in-Ok-write_all-clause-right
returns-in-Ok-write_all-clause-right g c = λ bytes left e.
    accepted_ends c.args.words.now (g.S.Source.moment c.args.source.now) (g.S.Source.moment c.reply_of.new.source) bytes c.in-Ok.reply.status c.in-Ok.reply.text.items
    left e c.in-Ok.ensures.reply
