use Rattle.std.proofs.Common.{ℕ, get_or, sum_by, subst, arith}
use Rattle.std.proofs.lemmas.List.Folds.{list_any_at}
use Rattle.fapp_model.specs.search.Clashes.{clashes_with}
use Rattle.fapp_model.specs.search.Partials.{literal}
use Rattle.fapp_model.specs.search.Weights.{between, bad_before, bad_further}
use Rattle.fapp_model.specs.declared.choice.Choice.{Choice}
use Rattle.fapp_model.specs.declared.literal.Literal.{Literal}
use Rattle.fapp_model.specs.declared.record.Record.{Record}
use Rattle.cert_check.specs.Weighed.{IsWeighedRow}
use Rattle.cert_check.proofs.OneMoreNumber.{none_more, sum_more}
use Rattle.cert_check.proofs.judging.own_weight.Goals as goal

pub returns-in-None : goal.returns-in-None
returns-in-None c =
    let instance = c.args.scene.instance.now in
    let literals = c.args.literals.now in
    let bad = subst (IsWeighedRow instance c.args.scene.level literals (get_or literals c.loop-a.a-index (literal 0 0))) c.in-None.is c.in_ok-own_row.ensures in
    list_any_at (clashes_with instance c.args.scene.level literals) literals c.loop-a.a-index (literal 0 0) c.loop-a-test.true bad

pub loop-a-preserved : goal.loop-a-preserved
loop-a-preserved c =
    let instance = c.args.scene.instance.now in
    let level = c.args.scene.level in
    let literals = c.args.literals.now in
    let index = c.loop-a.a-index in
    let more = c.in-Some.more in
    let row = subst (IsWeighedRow instance level literals (get_or literals index (literal 0 0))) c.in-Some.is c.in_ok-own_row.ensures in
    let term = λ (measure : Record → Choice → Choice → ℕ) (a : Literal). sum_by (λ b. between instance measure a b) literals in
    record {
      calm = none_more (clashes_with instance level literals) literals index (literal 0 0) c.loop-a-test.true c.loop-a.invariant.calm row.0;
      v = sum_more (term (bad_before level)) literals index (literal 0 0) c.loop-a.sum.v more.v c.loop-a-test.true c.loop-a.invariant.v row.1;
      s = sum_more (term (bad_further level)) literals index (literal 0 0) c.loop-a.sum.s more.s c.loop-a-test.true c.loop-a.invariant.s row.2;
      small_v = let h = row.3 in omega arith;
      small_s = let h = row.4 in omega arith;
    }
