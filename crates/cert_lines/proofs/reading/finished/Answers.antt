use Rattle.std.proofs.Common.{sym, ◌∙◌}
use Rattle.cert_lines.proofs.Parts.{not_finished}
use Rattle.cert_lines.proofs.reading.finished.Goals as goal

pub returns-then-not-is_empty : goal.returns-then-not-is_empty
returns-then-not-is_empty c = rw c.fault_at.ensures (not_finished c.args.text.line c.args.text.rest.now (sym c.is_empty.ensures ∙ c.if-not-is_empty.true))
