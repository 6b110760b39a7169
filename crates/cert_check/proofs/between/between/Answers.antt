use Rattle.std.proofs.Common.{ℕ, arith, cond}
use Rattle.fapp_model.specs.declared.choice.Choice.{Choice}
use Rattle.fapp_model.specs.declared.record.Record.{Record}
use Rattle.fapp_model.specs.search.Clashes.{joins}
use Rattle.fapp_model.specs.search.Partials.{choice_of}
use Rattle.fapp_model.specs.search.Weights.{bad_before, bad_further}
use Rattle.cert_check.specs.RecordsNamed.{record_at}
use Rattle.cert_check.proofs.OneMoreNumber.{sum_more}
use Rattle.cert_check.proofs.between.between.Goals as goal

pub loop-place-preserved : goal.loop-place-preserved
loop-place-preserved c =
    let instance = c.args.instance.now in
    let a = c.args.a in
    let b = c.args.b in
    let term = λ (measure : Record → Choice → Choice → ℕ) (k : ℕ). cond (joins a.path b.path (record_at instance k)) (measure (record_at instance k) (choice_of instance a) (choice_of instance b)) 0 in
    let v = rw (c.as_slice-constraints.ensures, c.choice_of-first.ensures, c.choice_of-second.ensures) at c.weight_of-more.ensures.v in
    let s = rw (c.as_slice-constraints.ensures, c.choice_of-first.ensures, c.choice_of-second.ensures) at c.weight_of-more.ensures.s in
    record {
      v = sum_more (term (bad_before c.args.level)) c.args.places.now c.loop-place.place-index 0 c.loop-place.sum.v c.weight_of-more.result.v c.loop-place-test.true c.loop-place.invariant.v v;
      s = sum_more (term (bad_further c.args.level)) c.args.places.now c.loop-place.place-index 0 c.loop-place.sum.s c.weight_of-more.result.s c.loop-place-test.true c.loop-place.invariant.s s;
      small_v = omega arith;
      small_s = omega arith;
    }
