use Rattle.std.proofs.Common.{sym}
use Rattle.cert_lines.proofs.Parts.{next_some, next_none}
use Rattle.cert_lines.proofs.reading.next_line.Goals as goal

pub returns-in-Some-clause-gives : goal.returns-in-Some-clause-gives
returns-in-Some-clause-gives c = rw c.fields_of.ensures (next_some c.args.text.line c.args.text.rest.now c.in-Some.end (sym c.in-Some.ensures))

pub returns-in-None-clause-gives : goal.returns-in-None-clause-gives
returns-in-None-clause-gives c = rw c.fault_at.ensures (next_none c.args.text.line c.args.text.rest.now (sym c.in-None.ensures))
