use Rattle.std.proofs.Common.{◌≡◌, length}
use Rattle.cert_lines.specs.Reading.{until}
use Rattle.cert_lines.specs.TextLeft.{text_left}
use Rattle.cert_lines.proofs.Until.{lines_front}
use Rattle.cert_lines.proofs.reading.until.Given as goal

abbrev pub invariant-loop-found : goal.invariant-loop-found
invariant-loop-found g l = lines_front l.found.items (until (g.R.LineReader.read l.reader) (length l.found.items) (text_left l.rest).0 (text_left l.rest).1) ≡ until (g.R.LineReader.read l.reader) 0 (text_left l.text).0 (text_left l.text).1

abbrev pub decreases-loop-found : goal.decreases-loop-found
decreases-loop-found g l = length l.rest.rest.now
