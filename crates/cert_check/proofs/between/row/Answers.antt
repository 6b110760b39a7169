use Rattle.std.proofs.Common.{ℕ, arith}
use Rattle.fapp_model.specs.declared.choice.Choice.{Choice}
use Rattle.fapp_model.specs.declared.literal.Literal.{Literal}
use Rattle.fapp_model.specs.declared.record.Record.{Record}
use Rattle.fapp_model.specs.search.Partials.{literal}
use Rattle.fapp_model.specs.search.Weights.{bad_before, bad_further}
use Rattle.cert_check.specs.RecordsNamed.{between_at}
use Rattle.cert_check.proofs.OneMoreNumber.{sum_more}
use Rattle.cert_check.proofs.between.row.Goals as goal

pub loop-b-preserved : goal.loop-b-preserved
loop-b-preserved c =
    let instance = c.args.instance.now in
    let places = c.args.places.now in
    let term = λ (measure : Record → Choice → Choice → ℕ) (b : Literal). between_at instance places measure c.args.a b in
    record {
      v = sum_more (term (bad_before c.args.level)) c.args.literals.now c.loop-b.b-index (literal 0 0) c.loop-b.sum.v c.between-there.result.v c.loop-b-test.true c.loop-b.invariant.v c.between-there.ensures.v;
      s = sum_more (term (bad_further c.args.level)) c.args.literals.now c.loop-b.b-index (literal 0 0) c.loop-b.sum.s c.between-there.result.s c.loop-b-test.true c.loop-b.invariant.s c.between-there.ensures.s;
      small_v = omega arith;
      small_s = omega arith;
    }
