use Rattle.std.proofs.Common.{inr, refl, subst}
use Rattle.cert_relay.specs.Relayed.{IsRelayWritten}
use Rattle.relay_cli.proofs.Fronts.{cut_text}
use Rattle.relay_cli.proofs.run.relayed.Goals as goal

pub returns : goal.returns
returns g c =
    let sink = g.K.Sink.moment c.args.sink.now in
    let sink' = g.K.Sink.moment c.relay.new.sink in
    let relayed = c.in-Ok.ensures.written in
    let written = subst (IsRelayWritten c.args.instance.now c.args.answer.now relayed.messages sink sink') c.in-OutOfMemory.is relayed.written in
    inr (inr (refl, inr (c.args.answer.now.verdict, refl, cut_text c.args.instance.now c.args.answer.now c.in-OutOfMemory.field-0 sink.taken sink'.taken written.0 written.2)))
