use Rattle.std.proofs.Common.{arith}
use Rattle.std.proofs.lemmas.Result.{err_from_is_err_and}
use Rattle.cert_lines.specs.Reading.{until}
use Rattle.cert_lines.specs.TextLeft.{text_left}
use Rattle.cert_lines.proofs.Until.{until_more, until_done, until_fails}
use Rattle.cert_lines.proofs.reading.until.Goals as goal

pub returns-in_err-line : goal.returns-in_err-line
returns-in_err-line g c =
    let read = g.R.LineReader.read c.args.reader.now in
    let p = err_from_is_err_and c.from_residual.result c.from_residual.ensures.1 in
    rw (p.1, p.2) (until_fails read c.in_err-line.field-0.0 c.loop-found.found.items c.len.result (text_left c.loop-found.rest) (until read 0 (text_left c.args.text).0 (text_left c.args.text).1) (omega arith) c.in_err-line.ensures.gives c.loop-found.invariant)

pub returns-in-None : goal.returns-in-None
returns-in-None g c =
    let read = g.R.LineReader.read c.args.reader.now in
    let h = rw c.in-None.is at c.in_ok-line.ensures.gives in
    rw c.from_vec.ensures (until_done read c.loop-found.found.items c.len.result (text_left c.loop-found.rest) (text_left c.in_ok-line.after) (until read 0 (text_left c.args.text).0 (text_left c.args.text).1) (omega arith) h c.loop-found.invariant)

pub loop-found-preserved : goal.loop-found-preserved
loop-found-preserved g c =
    let read = g.R.LineReader.read c.args.reader.now in
    let h = rw c.in-Some.is at c.in_ok-line.ensures.gives in
    rw c.in_ok-push-in-Some.ensures.items (until_more read c.loop-found.found.items c.len.result (text_left c.loop-found.rest) c.in-Some.line (text_left c.in_ok-line.after) (until read 0 (text_left c.args.text).0 (text_left c.args.text).1) (omega arith) h c.loop-found.invariant)
