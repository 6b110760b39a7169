use Rattle.std.proofs.Common.{arith}
use Rattle.fapp_run.proofs.AnswerSizes.{few_lines, fault_low}
use Rattle.fapp_run.proofs.judgement.judge_text.Goals as goal

pub judge_answer-requires-clause-few : goal.judge_answer-requires-clause-few
judge_answer-requires-clause-few g c =
    omega (arith, c.requires.text, few_lines c.args.instance.now c.in-Ok.answer c.args.text.now c.in-Ok.ensures.1)

pub fault_behind-requires : goal.fault_behind-requires
fault_behind-requires g c =
    let low = fault_low c.args.instance.now c.args.text.now c.in-Err-Bad.bad (rw c.in-Err-Bad.field-0-is at c.in-Err-Bad.ensures) in
    omega (arith, low, c.requires.text, c.requires.before)
