use Rattle.std.proofs.Common.{◌<◌, ℕ, List, All, subst, arith, sym, get_or, length}
use Rattle.std.proofs.lemmas.List.{get_or_default, take_all}
use Rattle.fapp_model.specs.declared.record.Record.{Record}
use Rattle.fapp_tables.specs.Indexes.{no_record, record_at}
use Rattle.choice_counts.specs.Breaks.{IsSteady}
use Rattle.choice_counts.proofs.BreakLaws.{steady_more}
use Rattle.choice_counts.proofs.breaks.next_reach.Goals as goal

pub loop-position-preserved : goal.loop-position-preserved
loop-position-preserved c =
    let instance = c.args.instance.now in
    let k = get_or c.args.positions.now c.loop-position.position-index 0 in
    let one : IsSteady (record_at instance k) c.args.distance c.next_break.result = subst (λ (rs : List Record). IsSteady (get_or rs k no_record) c.args.distance c.next_break.result) c.as_slice-records.ensures
    (subst (λ (r : Record). IsSteady r c.args.distance c.next_break.result) (get_or_default c.as_slice-records.result.now k _ no_record (subst (λ (rs : List Record). k < length rs) (sym c.as_slice-records.ensures) (c.requires.positions c.loop-position.position-index 0 c.loop-position-test.true))) c.next_break.ensures.steady) in
    record {
      above = omega (arith, c.min-reach.ensures, c.loop-position.invariant.above, c.next_break.ensures.above);
      within = omega (arith, c.min-reach.ensures, c.loop-position.invariant.within);
      steady = steady_more instance c.args.positions.now c.loop-position.position-index c.args.distance c.loop-position.reach c.next_break.result c.min-reach.result c.loop-position-test.true c.min-reach.ensures c.loop-position.invariant.steady one;
    }

pub returns-clause-steady : goal.returns-clause-steady
returns-clause-steady c =
    subst (λ (ks : List ℕ). All (λ k. IsSteady (record_at c.args.instance.now k) c.args.distance c.loop-position.reach) ks)
    (take_all c.loop-position.position-index c.args.positions.now c.loop-position-test.false) c.loop-position.invariant.steady
