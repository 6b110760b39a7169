use Rattle.cert_lines.proofs.TextAnswers.{in_parts}
use Rattle.cert_lines.proofs.laws.in_parts.Goals as goal

pub returns : goal.returns
returns c = in_parts
