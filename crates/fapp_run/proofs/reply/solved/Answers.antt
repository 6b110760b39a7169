use Rattle.std.proofs.lemmas.Result.{IfOk-weaker}
use Rattle.fapp_run.specs.Answers.{IsAnswerIn}
use Rattle.fapp_run.specs.Versions.{IsWrittenIn}
use Rattle.fapp_run.proofs.Told.{answer_in}
use Rattle.fapp_run.proofs.reply.solved.Goals as goal

pub returns : goal.returns
returns g c =
    let instance = c.args.instance.now in
    let options = c.args.options.now in
    let settings = c.settings_for-settings.result in
    let answer = c.in_ok-answer.answer in
    IfOk-weaker c.in_version.result (IsWrittenIn instance options.cert answer) (IsAnswerIn instance options)
    (λ written h. answer_in instance options settings.split settings.fuel answer written c.settings_for-settings.ensures.split c.settings_for-settings.ensures.fuel c.in_ok-answer.ensures h)
    c.in_version.ensures
