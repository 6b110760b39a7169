use Rattle.std.proofs.Common.{◌<◌, List, length, ap, subst, inl, inr, arith, slice_index, slice_index_or}
use Rattle.std.proofs.lemmas.Bool.{cases_lt}
use Rattle.std.proofs.lemmas.List.Elements.{All-same}
use Rattle.fapp_model.specs.declared.record.Record.{Record}
use Rattle.fapp_model.specs.search.Clashes.{is_hard_bad}
use Rattle.fapp_tables.specs.Indexes.{no_record}
use Rattle.fapp_tables.proofs.PairLaws.{positions_within}
use Rattle.arc_levels.specs.Gaps.{IsNextApart}
use Rattle.arc_levels.proofs.GapLaws.{next_all, next_more}
use Rattle.arc_levels.proofs.gaps.pair_next.Goals as goal

pub bounds-records-position : goal.bounds-records-position
bounds-records-position c =
    let pair = c.args.pair.now in
    let inside = All-same (λ k. k < length pair.instance.now.records) pair.positions.now _ c.requires.pair.positions (positions_within pair.instance.now pair.path pair.other)
    c.loop-position.position-index 0 c.loop-position-test.true in
    omega (arith, inside, ap length c.as_slice-records.ensures)

pub loop-position-preserved : goal.loop-position-preserved
loop-position-preserved c =
    let found = subst (λ (rs : List Record). IsNextApart (is_hard_bad c.args.pair.now.level (slice_index_or rs (slice_index c.args.pair.now.positions.now c.loop-position.position-index) no_record) c.args.first) c.args.second c.record_next.result)
    c.as_slice-records.ensures c.record_next.ensures in
    next_more c.args.pair.now c.args.first c.args.second c.loop-position.position-index c.loop-position.next c.record_next.result c.max-next.result
    c.requires.pair c.loop-position-test.true c.loop-position.invariant found
    (omega (arith, c.max-next.ensures)) (omega (arith, c.max-next.ensures))
    (elim (cases_lt c.loop-position.next c.record_next.result) [
      | inl less ↦ inr (omega (arith, less, c.max-next.ensures))
      | inr more ↦ inl (omega (arith, more, c.max-next.ensures))
    ])

pub returns : goal.returns
returns c = next_all c.args.pair.now c.args.first c.args.second c.loop-position.position-index c.loop-position.next c.requires.pair (omega (arith, c.loop-position-test.false)) c.loop-position.invariant
