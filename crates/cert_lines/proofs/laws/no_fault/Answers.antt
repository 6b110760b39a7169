use Rattle.cert_lines.proofs.TextAnswers.{no_fault}
use Rattle.cert_lines.proofs.laws.no_fault.Goals as goal

pub returns : goal.returns
returns c = no_fault
