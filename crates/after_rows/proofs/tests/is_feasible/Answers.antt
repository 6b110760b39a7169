use Rattle.std.proofs.Common.{◌≡◌, length, ◌∙◌, arith}
use Rattle.after_rows.proofs.Feasible.{feasible-by, more-in-range}
use Rattle.after_rows.proofs.tests.is_feasible.Goals as goal

pub loop-position-init : goal.loop-position-init
loop-position-init c = λ p less. absurd (omega (arith, less))

pub loop-position-preserved : goal.loop-position-preserved
loop-position-preserved c =
    more-in-range c.args.instance.now c.args.plan.now c.loop-position.position c.as_slice.result.now c.index-as_slice-position.result c.from.result c.choice_count.result
    (omega (arith, c.loop-position-test.true, c.if-plan-len.false, c.len.ensures, let e = Rattle.std.proofs.Common.ap (λ xs. length xs) c.as_slice.ensures in e)) c.as_slice.ensures c.index-as_slice-position.is c.choice_count.ensures.count c.from.ensures c.if-from-choice_count.false c.loop-position.invariant

pub cost-requires-clause-plan : goal.cost-requires-clause-plan
cost-requires-clause-plan c = record {
  whole = c.if-plan-len.false ∙ c.len.ensures;
  in_range = λ p less. c.loop-position.invariant p (omega (arith, less, c.loop-position-test.false, c.if-plan-len.false, c.len.ensures));
}

pub returns : goal.returns
returns c = λ some. feasible-by c.args.instance.now c.args.plan.now c.cost.result (record {
  whole = c.if-plan-len.false ∙ c.len.ensures;
  in_range = λ p less. c.loop-position.invariant p (omega (arith, less, c.loop-position-test.false, c.if-plan-len.false, c.len.ensures));
}) c.cost.ensures (Rattle.std.proofs.Common.sym c.is_some.ensures ∙ some)
