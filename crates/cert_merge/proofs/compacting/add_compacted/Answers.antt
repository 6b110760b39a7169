use Rattle.std.proofs.Common.{◌++◌, ◌∷◌, [], ◌∙◌, List, ap, map, sym, ℕ}
use Rattle.cert_lines.specs.declared.answer.Line.{Line}
use Rattle.cert_lines.specs.Renumbering.{number_in, renumbered}
use Rattle.accept_laws.specs.Compacting.{delete_line}
use Rattle.cert_merge.proofs.CompactSteps.{both-added}
use Rattle.cert_merge.proofs.compacting.add_compacted.Goals as goal

pub returns-in_ok-add-clause-lines : goal.returns-in_ok-add-clause-lines
returns-in_ok-add-clause-lines c =
    both-added c.args.out.now.items c.add.new.out.items c.add-then-not-is_empty.new.out.items (renumbered (number_in c.args.numbers.now.items) c.args.line.now) c.in_ok-delete_line.field-0 c.push.new.self.items c.args.ended.now
    (c.in_ok-number.ensures.line ∙ ap (λ (l : Line). c.args.out.now.items ++ l ∷ []) (c.in_ok-renumbered.ensures ∙ ap (λ (ns : List ℕ). renumbered (number_in ns) c.args.line.now) c.deref.ensures.value))
    c.in_ok-add.ensures.line
    (c.in_ok-delete_line.ensures ∙ ap (λ (ns : List ℕ). delete_line (map (number_in ns) c.args.ended.now)) c.deref-then-not-is_empty.ensures.value)
    (sym c.is_empty.ensures ∙ c.if-not-is_empty.true)
