use Rattle.std.proofs.Common.{◌≡◌, false, get_or, sym, ap, subst, ◌∙◌}
use Rattle.std.proofs.lemmas.List.Elements.{Contains-get_or}
use Rattle.fapp_model.specs.Tags.{triple_from}
use Rattle.fapp_model.specs.search.Dead.{Dead}
use Rattle.fapp_model.specs.search.Partials.{literal, names}
use Rattle.choice_counts.specs.ForwardStates.{ForwardState, with_pushed}
use Rattle.settle_laws.specs.Explained.{IsDeadPart}
use Rattle.subtree_search.proofs.Explaining.{others-apart, part-again, part-without}
use Rattle.subtree_search.proofs.explain.leave_out_of_dead.Goals as goal

pub returns-then-is_dead-clause-part : goal.returns-then-is_dead-clause-part
returns-then-is_dead-clause-part c =
    let f = c.args.forward.now in
    let path = (get_or c.args.literals.now c.args.place (literal 0 0)).path in
    let dead = subst (λ (s : ForwardState). Dead s.instance (triple_from c.args.tag.code) s.pushed) c.remove.ensures (c.is_dead.ensures.0 c.if-is_dead.true) in
    subst (λ (s : ForwardState). IsDeadPart f.instance c.args.tag.code c.args.literals.now s.pushed) (sym c.remove.ensures)
    (part-without f.instance c.requires.valid c.args.tag.code c.args.literals.now f.pushed c.requires.literals c.requires.part path dead)

pub push-requires-clause-free : goal.push-requires-clause-free
push-requires-clause-free c =
    let path = (get_or c.args.literals.now c.args.place (literal 0 0)).path in
    subst (λ (s : ForwardState). names s.pushed path ≡ false) (sym c.remove.ensures) (others-apart c.args.forward.now.pushed path)

pub returns-clause-part : goal.returns-clause-part
returns-clause-part c =
    let f = c.args.forward.now in
    let a = get_or c.args.literals.now c.args.place (literal 0 0) in
    subst (λ (s : ForwardState). IsDeadPart f.instance c.args.tag.code c.args.literals.now s.pushed) (sym (c.push.ensures ∙ ap (λ (s : ForwardState). with_pushed s a.path a.choice) c.remove.ensures))
    (part-again f.instance c.requires.valid c.args.tag.code c.args.literals.now f.pushed c.requires.literals c.requires.part a (Contains-get_or c.args.literals.now c.args.place (literal 0 0) c.requires.place))
