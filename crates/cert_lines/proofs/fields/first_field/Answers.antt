use Rattle.std.proofs.Common.{ap, sym}
use Rattle.cert_lines.specs.FieldReading.{is_space, field_at}
use Rattle.cert_lines.proofs.Splits.{split_some, split_none}
use Rattle.cert_lines.proofs.fields.first_field.Goals as goal

pub returns-in-Some : goal.returns-in-Some
returns-in-Some c = ap field_at (split_some is_space c.args.bytes.now c.in-Some.end (sym c.in-Some.ensures))

pub returns-in-None : goal.returns-in-None
returns-in-None c = ap field_at (split_none is_space c.args.bytes.now (sym c.in-None.ensures))
