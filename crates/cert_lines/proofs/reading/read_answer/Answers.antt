use Rattle.cert_lines.proofs.TextAnswers.{is_reading}
use Rattle.cert_lines.proofs.reading.read_answer.Goals as goal

pub returns : goal.returns
returns c = is_reading c.args.instance.now c.requires.instance c.args.bytes.now c.answer_of.result c.answer_of.ensures
