use Rattle.std.proofs.Common.{subst}
use Rattle.std.proofs.lemmas.Result.{IfOk-weaker}
use Rattle.fapp_run.specs.declared.reply.Reply.{Reply}
use Rattle.fapp_run.specs.Answers.{Answers}
use Rattle.fapp_run.specs.Replies.{IsSolveReply}
use Rattle.fapp_run.proofs.SolveReplies.{solve-reply}
use Rattle.fapp_run.proofs.top.solved.Goals as goal

pub returns-in-Ok-clause-reply : goal.returns-in-Ok-clause-reply
returns-in-Ok-clause-reply g c =
    let source = g.S.Source.moment c.args.source.now in
    let source' = g.S.Source.moment c.read_all.new.source in
    let bytes = c.in-Ok.bytes.items in
    let read = c.in-Ok.ensures in
    IfOk-weaker c.answer.result (λ (o : Reply). Answers c.args.options c.deref.result.now o.status o.text.items) (λ (o : Reply). IsSolveReply c.args.options source source' o.status o.text.items)
    (λ o h. solve-reply c.args.options source source' bytes o.status o.text.items read.0 read.1 (subst (λ b. Answers c.args.options b o.status o.text.items) c.deref.ensures.value h)) c.answer.ensures
