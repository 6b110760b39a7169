use Rattle.cert_lines.proofs.Splits.{ended_line}
use Rattle.cert_lines.proofs.fields.ended.Goals as goal

pub returns-in-Some : goal.returns-in-Some
returns-in-Some c = rw c.in-Some.is (ended_line c.in-Some.field-0.now)
