use Rattle.std.proofs.Common.{subst}
use Rattle.fapp_run.specs.Answers.{Solves}
use Rattle.fapp_run.proofs.Told.{told_result}
use Rattle.fapp_run.proofs.reply.answer.Goals as goal

pub returns-in-Answered : goal.returns-in-Answered
returns-in-Answered g c =
    let options = c.args.options.now in
    let bytes = c.args.bytes.now in
    told_result options bytes c.in-Answered.instance c.in-Answered.answer c.told.result (subst (Solves options bytes) c.in-Answered.is c.in_ok-status.ensures) c.told.ensures.status c.told.ensures.text
