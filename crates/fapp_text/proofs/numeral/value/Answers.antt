use Rattle.std.proofs.Common.{◌+◌, ◌*◌, sym, lit≤, arith}
use Rattle.std.proofs.lemmas.Str.Parse.{digits_value-take-le}
use Rattle.fapp_text.proofs.DigitLemmas.{value_more, too_large}
use Rattle.fapp_text.proofs.numeral.value.Goals as goal

pub loop-digit-preserved : goal.loop-digit-preserved
loop-digit-preserved c =
    let more = value_more c.args.digits.now c.loop-digit.digit-index c.requires c.loop-digit-test.true in
    (omega (arith, more, c.from.ensures, c.loop-digit.invariant.0), omega (arith, c.if-value-from.false, c.from-in-loop-digit.ensures))

pub returns-then-value-from : goal.returns-then-value-from
returns-then-value-from c =
    let more = value_more c.args.digits.now c.loop-digit.digit-index c.requires c.loop-digit-test.true in
    let least = digits_value-take-le 10 c.args.digits.now (c.loop-digit.digit-index + 1) (lit≤ tt) in
    sym (too_large c.args.digits.now (c.loop-digit.value * 10 + c.from.result) (omega (arith, more, least, c.from.ensures, c.loop-digit.invariant.0)) (omega (arith, c.if-value-from.true, c.from-in-loop-digit.ensures)))
