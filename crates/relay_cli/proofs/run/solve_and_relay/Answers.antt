use Rattle.std.proofs.Common.{inr, subst}
use Rattle.cert_lines.specs.Spelling.{answer_text}
use Rattle.answer_writer.specs.Refusals.{refusal_line}
use Rattle.fapp_run.specs.Answers.{status_of}
use Rattle.relay_cli.specs.RelaySteps.{IsSolutionOf}
use Rattle.relay_cli.proofs.RelayRuns.{answered_outcome, refused_outcome}
use Rattle.relay_cli.proofs.run.solve_and_relay.Goals as goal

pub returns-in-Ok-Refused-clause-run : goal.returns-in-Ok-Refused-clause-run
returns-in-Ok-Refused-clause-run g c =
    let options = c.args.options.now in
    let source = g.S.Source.moment c.args.source.now in
    let source' = g.S.Source.moment c.solution.new.source in
    let status = c.in-Ok-Refused.status in
    let solution = subst (IsSolutionOf options source source') c.in-Ok-Refused.field-0-is c.in-Ok-Refused.ensures.solution in
    inr (status, refusal_line status, refused_outcome options source source' status solution, c.refused.ensures)

pub returns-in-Ok-Answered-clause-run : goal.returns-in-Ok-Answered-clause-run
returns-in-Ok-Answered-clause-run g c =
    let options = c.args.options.now in
    let source = g.S.Source.moment c.args.source.now in
    let source' = g.S.Source.moment c.solution.new.source in
    let instance = c.in-Ok-Answered.instance in
    let answer = c.in-Ok-Answered.answer in
    let solution = subst (IsSolutionOf options source source') c.in-Ok-Answered.field-0-is c.in-Ok-Answered.ensures.solution in
    inr (status_of answer.verdict, answer_text instance answer, answered_outcome options source source' instance answer c.requires.whole solution, c.relayed.ensures)
