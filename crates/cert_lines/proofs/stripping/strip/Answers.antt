use Rattle.std.proofs.Common.{arith, subst, sym, ◌∙◌, ◌≡◌, List}
use Rattle.std.proofs.lemmas.List.{take_all}
use Rattle.cert_lines.specs.declared.answer.Line.{Line}
use Rattle.cert_lines.specs.Stripping.{stripped, stripped_from}
use Rattle.cert_lines.proofs.StripSteps.{strip-deletes, strip-stays, stripped-copy}
use Rattle.cert_lines.proofs.stripping.strip.Goals.{else-not-is_delete, then-not-is_delete+in_ok-stripped_line+in_ok-push}
use Rattle.cert_lines.proofs.stripping.strip.Goals as goal

pub loop-line-preserved : goal.loop-line-preserved
loop-line-preserved c =
    let lines = c.args.lines.now in
    let i = c.loop-line.line-index in
    let line = c.line-item.result in
    elim c.if-not-is_delete.branch [
      | then-not-is_delete+in_ok-stripped_line+in_ok-push w ↦
          let plain = sym c.is_delete.ensures ∙ w.if-not-is_delete.true in
          rw w.out-is (strip-stays lines i line c.loop-line-test.true c.line-item.is c.loop-line.out.items w.push.new.self.items w.in_ok-stripped_line.field-0 plain c.loop-line.invariant
          (stripped-copy lines i line c.loop-line-test.true c.line-item.is w.deref.result.now w.in_ok-stripped_line.field-0 c.requires (w.deref.ensures.value ∙ c.in_ok-numbers.ensures) plain w.in_ok-stripped_line.ensures)
          w.in_ok-push.ensures.items)
      | else-not-is_delete w ↦ rw w.out-is (strip-deletes lines i line c.loop-line-test.true c.line-item.is c.loop-line.out.items (sym c.is_delete.ensures ∙ w.if-not-is_delete.false) c.loop-line.invariant)
    ]

pub returns : goal.returns
unfolding stripped
returns c = subst (λ (ls : List Line). c.loop-line.out.items ≡ stripped_from c.args.lines.now ls) (take_all c.loop-line.line-index c.args.lines.now (omega (arith, c.loop-line-test.false))) c.loop-line.invariant
