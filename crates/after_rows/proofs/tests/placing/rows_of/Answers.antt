use Rattle.std.proofs.Common.{get_or, sym, subst, arith}
use Rattle.std.proofs.lemmas.List.{get_or_default}
use Rattle.after_rows.specs.Placing.{IsSaid}
use Rattle.after_rows.proofs.Saying.{AreSaidTo, all-said, more-said, none-said, said-by}
use Rattle.after_rows.proofs.tests.placing.rows_of.Goals as goal

pub loop-number-init : goal.loop-number-init
loop-number-init c = subst (AreSaidTo c.args.old.now c.args.numbers.now 0) (sym c.new-rows.ensures.items) (none-said c.args.old.now c.args.numbers.now)

pub loop-number-preserved : goal.loop-number-preserved
loop-number-preserved c =
    let number = get_or c.args.numbers.now c.loop-number.number-index 0 in
    more-said c.args.old.now c.args.numbers.now c.loop-number.number-index c.loop-number.rows.items c.push.new.self.items c.in-Some.row c.loop-number.invariant c.in_ok-push.ensures.items
    (λ m. subst (λ n. IsSaid c.args.old.now n c.in-Some.row) (get_or_default c.args.numbers.now c.loop-number.number-index 0 m c.loop-number-test.true)
    (said-by c.args.old.now number c.index-old-number.result c.in-Some.row (omega (arith, c.if-number-eq0.false)) (omega (arith, c.if-number-old.false)) c.index-old-number.is c.in-Some.ensures (omega (arith, c.if-row-eq0.false))))

pub returns : goal.returns
returns c = all-said c.args.old.now c.args.numbers.now c.loop-number.number-index c.loop-number.rows.items c.loop-number.invariant (omega (arith, c.loop-number-test.false, c.loop-number.auto.number-index-end))
