use Rattle.std.proofs.Common.{◌≡◌, false, List, All, get_or, sym, ap, subst, ◌∙◌}
use Rattle.std.proofs.lemmas.List.Elements.{Contains-get_or}
use Rattle.fapp_model.specs.search.Partials.{literal, names}
use Rattle.choice_counts.specs.ForwardStates.{ForwardState, with_pushed}
use Rattle.search_log.specs.declared.line.ChoiceRef.{ChoiceRef}
use Rattle.settle_laws.specs.Explained.{Explains, IsClosedBy}
use Rattle.subtree_search.specs.Explaining.{IsNodeToExplain, IsOffPath}
use Rattle.subtree_search.proofs.Explaining.{asked-without, explains-again, explains-without, others-apart}
use Rattle.subtree_search.proofs.explain.leave_out.Goals as goal

pub is_closed-requires : goal.is_closed-requires
is_closed-requires c = record {
  asked = subst (λ (s : ForwardState). IsNodeToExplain s.instance s.pushed c.args.node.now) (sym c.remove.ensures)
      (asked-without c.args.forward.now.instance c.args.seen.now.cites.items c.args.log.now.lines c.args.literals.now c.args.forward.now.pushed c.args.node.now c.requires.asked c.requires.explains (get_or c.args.literals.now c.args.place (literal 0 0)).path);
}

pub returns-then-is_closed-clause-explains : goal.returns-then-is_closed-clause-explains
returns-then-is_closed-clause-explains c =
    let f = c.args.forward.now in
    let path = (get_or c.args.literals.now c.args.place (literal 0 0)).path in
    let free = subst (λ (refs : List ChoiceRef). All (λ (r : ChoiceRef). IsOffPath c.args.seen.now.cites.items c.args.log.now.lines path r.line) refs) c.as_slice.ensures (c.is_used.ensures c.if-is_used.false) in
    let closed = subst (λ (s : ForwardState). IsClosedBy s.instance s.pushed c.args.node.now) c.remove.ensures (c.is_closed.ensures.closed c.if-is_closed.true) in
    subst (λ (s : ForwardState). Explains f.instance c.args.seen.now.cites.items c.args.log.now.lines c.args.literals.now s.pushed c.args.node.now) (sym (c.is_closed.ensures.front ∙ c.remove.ensures))
    (explains-without f.instance c.args.seen.now.cites.items c.args.log.now.lines c.args.literals.now f.pushed c.args.node.now c.requires.asked c.requires.explains path free closed)

pub push-requires-clause-free : goal.push-requires-clause-free
push-requires-clause-free c =
    let path = (get_or c.args.literals.now c.args.place (literal 0 0)).path in
    subst (λ (s : ForwardState). names s.pushed path ≡ false) (sym (c.is_closed.ensures.front ∙ c.remove.ensures)) (others-apart c.args.forward.now.pushed path)

pub returns-clause-explains : goal.returns-clause-explains
returns-clause-explains c =
    let f = c.args.forward.now in
    let a = get_or c.args.literals.now c.args.place (literal 0 0) in
    subst (λ (s : ForwardState). Explains f.instance c.args.seen.now.cites.items c.args.log.now.lines c.args.literals.now s.pushed c.args.node.now)
    (sym (c.push.ensures ∙ ap (λ (s : ForwardState). with_pushed s a.path a.choice) (c.is_closed.ensures.front ∙ c.remove.ensures)))
    (explains-again f.instance c.args.seen.now.cites.items c.args.log.now.lines c.args.literals.now f.pushed c.args.node.now c.requires.asked c.requires.explains a (Contains-get_or c.args.literals.now c.args.place (literal 0 0) c.requires.place))
