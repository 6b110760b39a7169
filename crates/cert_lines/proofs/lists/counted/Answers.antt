use Rattle.std.proofs.lemmas.Result.{err_from_is_err_and}
use Rattle.cert_lines.specs.FieldsLeft.{fields_left}
use Rattle.cert_lines.specs.ListReading.{many}
use Rattle.cert_lines.proofs.Loop.{goes_on, ends}
use Rattle.cert_lines.proofs.lists.counted.Goals as goal

pub returns-in_err-element : goal.returns-in_err-element
returns-in_err-element g c =
    let step = g.R.ElementReader.step c.args.reader.now in
    let p = err_from_is_err_and c.from_residual.result c.from_residual.ensures.1 in
    rw (p.1, p.2) (ends step c.in_err-element.field-0.0 c.loop.elements.items c.args.count c.loop.counter (c.loop.low, fields_left c.loop.rest) (many step c.args.count (0, fields_left c.args.fields)) c.loop-test.true c.in_err-element.ensures c.loop.invariant)

pub loop-preserved : goal.loop-preserved
loop-preserved g c =
    let step = g.R.ElementReader.step c.args.reader.now in
    rw c.in_ok-push.ensures.items (goes_on step c.loop.elements.items c.args.count c.loop.counter (c.loop.low, fields_left c.loop.rest) c.in_ok-element.element (c.in_ok-element.least, fields_left c.in_ok-element.after) (many step c.args.count (0, fields_left c.args.fields)) c.loop-test.true c.in_ok-element.ensures c.loop.invariant)
