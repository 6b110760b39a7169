use Rattle.std.proofs.Common.{◌≡◌, ℕ, ◌+◌, ◌-◌, false, get_or, arith, ap, sym, ◌∙◌}
use Rattle.std.proofs.lemmas.List.{get_or_default}
use Rattle.cert_lines.specs.declared.answer.Line.{Line}
use Rattle.cert_lines.specs.acceptance.Deleted.{is_delete}
use Rattle.cert_lines.specs.acceptance.Excluded.{line_at, no_line}
use Rattle.cert_check.proofs.FirstDeleter.{kept-by}
use Rattle.cert_check.proofs.root.is_kept.Goals as goal

pub returns-then-not-is_delete : goal.returns-then-not-is_delete
returns-then-not-is_delete c =
    let lines = c.args.lines.now in
    let place = c.args.place in
    let number : place ≡ place + 1 - 1 = omega arith in
    let own : c.index-lines-place.result ≡ line_at lines (place + 1) = c.index-lines-place.is ∙ get_or_default lines place c.index-lines-place.result no_line c.requires.place ∙ ap (λ k. get_or lines k no_line) number in
    kept-by lines c.args.deleters.now place c.requires.deleters c.requires.place
    (ap (λ (line : Line). is_delete line.rule) (sym own ∙ c.index-lines-place.is) ∙ sym c.is_delete.ensures ∙ c.if-not-is_delete.true)
