use Rattle.std.proofs.Common.{◌≡◌, ◌-◌}
use Rattle.cert_lines.specs.FieldsLeft.{fields_left}
use Rattle.cert_lines.specs.ListReading.{many}
use Rattle.cert_lines.proofs.Loop.{with_front}
use Rattle.cert_lines.proofs.lists.counted.Given as goal

abbrev pub invariant-loop : goal.invariant-loop
invariant-loop g l = with_front l.elements.items (many (g.R.ElementReader.step l.reader) (l.count - l.counter) (l.low, fields_left l.rest)) ≡ many (g.R.ElementReader.step l.reader) l.count (0, fields_left l.fields)
