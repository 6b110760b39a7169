use Rattle.cert_lines.proofs.TextAnswers.{fault_behind}
use Rattle.cert_lines.proofs.laws.fault_behind.Goals as goal

pub returns : goal.returns
returns c = fault_behind
