use Rattle.std.proofs.Common.{◌≡◌, ◌+◌, ◌∙◌, ◌<◌, false, ap, arith, length, subst, sym, []}
use Rattle.std.proofs.lemmas.List.{get_or_default}
use Rattle.cert_lines.specs.declared.answer.Line.{Line}
use Rattle.cert_lines.specs.acceptance.Deleted.{is_delete}
use Rattle.accept_laws.specs.Compacting.{compacted, compacted_to}
use Rattle.cert_merge.proofs.CompactSteps.{written-more}
use Rattle.cert_merge.proofs.compacting.compact.Goals as goal

pub loop-place-preserved : goal.loop-place-preserved
loop-place-preserved c =
    let lines = c.args.lines.now in
    let i = c.loop-place.place in
    let line = c.index-lines-place.result in
    let rows = c.in_ok-rows.rows.items in
    let plain = subst (λ (l : Line). is_delete l.rule ≡ false) (sym c.index-lines-place.is) (c.requires.plain i line c.loop-place-test.true) in
    let small : i < length lines = c.loop-place-test.true in
    let inside : i + 1 < length rows = omega (arith, c.in_ok-rows.ensures.long, small) in
    let row = c.as_slice.ensures ∙ (c.index.ensures ∙ (get_or_default rows (i + 1) c.index.result.now [] inside ∙ c.in_ok-rows.ensures.at (i + 1) (omega arith) (omega arith))) in
    record {
      written = written-more lines i line c.loop-place.out.items c.add_compacted.new.out.items c.loop-place.numbers.items c.add_compacted.new.numbers.items c.as_slice.result.now small c.index-lines-place.is plain c.requires.cites c.loop-place.invariant.written row
          c.in_ok-add_compacted.ensures.lines c.in_ok-add_compacted.ensures.numbers;
      few = c.in_ok-add_compacted.ensures.few;
    }

pub returns-clause-value : goal.returns-clause-value
unfolding compacted
returns-clause-value c =
    let done : c.loop-place.place ≡ length c.args.lines.now = omega (arith, c.loop-place-test.false, c.loop-place.auto.place-end) in
    c.loop-place.invariant.written.lines_are ∙ ap (compacted_to c.args.lines.now) done
