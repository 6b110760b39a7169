use Rattle.cert_lines.proofs.TextAnswers.{one_text}
use Rattle.cert_lines.proofs.laws.one_text.Goals as goal

pub returns : goal.returns
returns c = one_text
