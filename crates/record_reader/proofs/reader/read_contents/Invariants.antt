use Rattle.std.proofs.Common.{◌≡◌, length}
use Rattle.fapp_text.specs.Lines.{lines}
use Rattle.record_reader.specs.Contents.{Contents, no_contents}
use Rattle.record_reader.specs.LineReading.{read_lines}
use Rattle.record_reader.specs.Readers.{ReaderHolds}
use Rattle.record_reader.proofs.reader.read_contents.Given as goal

abbrev pub invariant-loop-line : goal.invariant-loop-line
invariant-loop-line l = (contents : Contents) × (read_lines contents l.lines.number l.lines.lines ≡ read_lines no_contents 1 (lines l.bytes)) × ReaderHolds l.reader contents

abbrev pub decreases-loop-line : goal.decreases-loop-line
decreases-loop-line l = length l.lines.lines
