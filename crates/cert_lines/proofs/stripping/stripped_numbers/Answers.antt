use Rattle.cert_lines.proofs.StripSteps.{count-deletes, count-stays, numbers-more}
use Rattle.cert_lines.proofs.stripping.stripped_numbers.Goals.{else-not-is_delete, then-not-is_delete}
use Rattle.cert_lines.proofs.stripping.stripped_numbers.Goals as goal
use Rattle.std.proofs.Common.{◌≡◌, ◌+◌, ◌∙◌, sym}
use Rattle.cert_lines.specs.Stripping.{stripped_number}

pub loop-line-preserved : goal.loop-line-preserved
loop-line-preserved c =
    let lines = c.args.lines.now in
    let i = c.loop-line.line-index in
    let line = c.line-item.result in
    let next : c.if-not-is_delete.count ≡ stripped_number lines (i + 1) = elim c.if-not-is_delete.branch [
      | then-not-is_delete w ↦ count-stays lines i line c.loop-line-test.true c.line-item.is c.loop-line.count c.if-not-is_delete.count (sym c.is_delete.ensures ∙ w.if-not-is_delete.true) c.loop-line.invariant.count w.count-is
      | else-not-is_delete w ↦ count-deletes lines i line c.loop-line-test.true c.line-item.is c.loop-line.count c.if-not-is_delete.count (sym c.is_delete.ensures ∙ w.if-not-is_delete.false) c.loop-line.invariant.count w.count-is
    ] in
    record {
      count = next;
      numbers = numbers-more lines i c.if-not-is_delete.count c.loop-line.numbers.items c.push-in-loop-line.new.self.items c.loop-line.invariant.numbers c.in_ok-push-2.ensures.items next;
    }
