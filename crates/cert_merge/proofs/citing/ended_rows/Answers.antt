use Rattle.std.proofs.Common.{◌+◌, ◌∙◌, ◌<◌, ◌≤◌, ℕ, List, ap, arith, inl, inr, length, subst, sym, refl, get_or, slice_set, ◌++◌, ◌∷◌, []}
use Rattle.std.proofs.lemmas.List.{get_or_default}
use Rattle.cert_lines.specs.declared.answer.Line.{Line}
use Rattle.cert_lines.specs.acceptance.Excluded.{line_at}
use Rattle.cert_merge.proofs.LastCites.{line-here}
use Rattle.cert_merge.proofs.EndedRows.{filled-all, filled-more, filled-none, filled-same, last-within}
use Rattle.cert_merge.proofs.citing.ended_rows.Goals.{then-n-gt0+then-len-ge2+in_ok-push, else-n-gt0, else-n-gt0-via-then-n-gt0+else-len-ge2, else-n-gt0-via-else-n-gt0}
use Rattle.cert_merge.proofs.citing.ended_rows.Goals as goal

pub loop-place-init : goal.loop-place-init
loop-place-init c = filled-none c.args.lines.now c.in_ok-rows.rows.items c.in_ok-rows.ensures

pub index_mut-requires : goal.index_mut-requires
index_mut-requires c = omega (arith, c.requires.last.at (c.loop-place.place + 1) (omega (arith, c.loop-place-test.true)), last-within c.args.lines.now (length c.args.lines.now) (c.loop-place.place + 1), c.loop-place.invariant.long)

pub loop-place-preserved : goal.loop-place-preserved
loop-place-preserved c =
    let lines = c.args.lines.now in
    let i = c.loop-place.place in
    let line = c.index-lines-place.result in
    let here = line-here lines i line c.loop-place-test.true c.index-lines-place.is in
    let same = filled-same lines c.args.last.now c.requires.last i c.loop-place.rows.items c.loop-place-test.true c.loop-place.invariant in
    elim c.if-n-gt0.branch [
      | then-n-gt0+then-len-ge2+in_ok-push w ↦ (let rows = c.loop-place.rows.items in
          let m = get_or c.args.last.now (i + 1) 0 in
          let inside : m < length rows = omega (arith, c.requires.last.at (i + 1) (omega (arith, c.loop-place-test.true)), last-within lines (length lines) (i + 1), c.loop-place.invariant.long) in
          let long : 2 ≤ length (line_at lines (i + 1)).lits = subst (λ (l : Line). 2 ≤ length l.lits) (sym here) (omega (arith, w.if-len-ge2.true, w.len.ensures)) in
          rw w.rows-is (filled-more lines c.args.last.now c.requires.last i rows c.loop-place-test.true c.loop-place.invariant m _ refl w.if-n-gt0.true long inside
          (ap (slice_set rows m) (w.in_ok-push.ensures.ok ∙ ap (λ (r : List ℕ). r ++ (i + 1) ∷ []) (w.index_mut.ensures.value ∙ get_or_default rows m w.index_mut.result.now [] inside)))))
      | else-n-gt0 w ↦ elim w.else-n-gt0.branch [
        | else-n-gt0-via-then-n-gt0+else-len-ge2 v ↦ rw w.rows-is (same (inr (subst (λ (l : Line). length l.lits < 2) (sym here) (omega (arith, v.if-len-ge2.false, v.len.ensures)))))
        | else-n-gt0-via-else-n-gt0 v ↦ rw w.rows-is (same (inl (omega (arith, v.if-n-gt0.false))))
      ]
    ]

pub returns : goal.returns
returns c = filled-all c.args.lines.now c.requires.cites c.loop-place.place c.loop-place.rows.items (omega (arith, c.loop-place-test.false)) (omega (arith, c.loop-place.auto.place-end)) c.loop-place.invariant
