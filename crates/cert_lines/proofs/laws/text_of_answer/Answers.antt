use Rattle.cert_lines.proofs.TextAnswers.{text_of_answer}
use Rattle.cert_lines.proofs.laws.text_of_answer.Goals as goal

pub returns : goal.returns
returns c = text_of_answer
