use Rattle.std.proofs.Common.{ap, subst}
use Rattle.std.specs.declared.alloc.AllocError.{AllocError}
use Rattle.choice_counts.specs.ForwardStates.{ForwardState}
use Rattle.settle_laws.specs.Noted.{Notes}
use Rattle.subtree_search.proofs.Advancing.{noted-err, notes-end, notes-fail, notes-go, notes-lighter, small-choice, some-pushed}
use Rattle.subtree_search.proofs.walk.note.Goals as goal

pub pop-requires-2 : goal.pop-requires-2
pop-requires-2 c =
    let t = c.requires.coming in
    some-pushed AllocError c.args.forward.now.instance c.args.walk.now.level t.0 t.1 t.3 c.args.walk.now.nodes.items c.pop.new.self.items c.in-Some.node c.in-Some.ensures.items c.args.forward.now.pushed t.2 c.args.found t.4

pub note_choice-requires : goal.note_choice-requires
note_choice-requires c =
    let t = c.requires.coming in
    (small-choice AllocError c.args.forward.now.instance c.args.walk.now.level t.0 t.1 t.3 c.args.walk.now.nodes.items c.pop.new.self.items c.in-Some.node c.in-Some.ensures.items c.args.forward.now.pushed t.2 c.args.found t.4 c.requires.ready.valid).1

pub returns-in_err-end-clause-noted : goal.returns-in_err-end-clause-noted
returns-in_err-end-clause-noted c = λ root from now prefix comes.
    noted-err c.args.forward.now.instance c.args.walk.now.level root from c.pop.new.self.items c.pop-2.new.self.pushed now c.from_residual.result c.from_residual.ensures.0
    (notes-fail AllocError c.args.forward.now.instance c.args.walk.now.level root from prefix c.args.walk.now.nodes.items c.pop.new.self.items c.in-Some.node c.in-Some.ensures.items c.args.forward.now.pushed now c.args.found comes c.in_err-end.ensures)

pub returns-in-Some-2-clause-noted : goal.returns-in-Some-2-clause-noted
returns-in-Some-2-clause-noted c = λ root from now prefix comes.
    notes-end AllocError c.args.forward.now.instance c.args.walk.now.level root from prefix c.args.walk.now.nodes.items c.pop.new.self.items c.in-Some.node c.in-Some.ensures.items c.args.forward.now.pushed now c.args.found comes
    c.note_choice.new.node c.in-Some-2.end (subst (λ o. Notes c.in-Some.node c.note_choice.new.node c.args.found o) c.in-Some-2.is c.in_ok-end.ensures) c.pop-2.new.self.pushed

pub returns-clause-noted : goal.returns-clause-noted
returns-clause-noted c = λ root from now prefix comes.
    notes-go AllocError c.args.forward.now.instance c.args.walk.now.level root from prefix c.args.walk.now.nodes.items c.pop.new.self.items c.in-Some.node c.in-Some.ensures.items c.args.forward.now.pushed now c.args.found comes
    c.requires.ready.valid c.requires.ready.level c.note_choice.new.node (subst (λ o. Notes c.in-Some.node c.note_choice.new.node c.args.found o) c.in_default-2.is c.in_ok-end.ensures)
    c.push.new.self.items c.in_ok-push.ensures.items c.pop-2.new.self.pushed (ap (λ (s : ForwardState). s.pushed) c.pop-2.ensures)

pub returns-clause-lighter : goal.returns-clause-lighter
returns-clause-lighter c =
    let t = c.requires.coming in
    let small = small-choice AllocError c.args.forward.now.instance c.args.walk.now.level t.0 t.1 t.3 c.args.walk.now.nodes.items c.pop.new.self.items c.in-Some.node c.in-Some.ensures.items c.args.forward.now.pushed t.2 c.args.found t.4 c.requires.ready.valid in
    notes-lighter c.args.walk.now.nodes.items c.push.new.self.items c.pop.new.self.items c.in-Some.node c.note_choice.new.node c.args.found c.in-Some.ensures.items c.in_ok-push.ensures.items
    (subst (λ o. Notes c.in-Some.node c.note_choice.new.node c.args.found o) c.in_default-2.is c.in_ok-end.ensures) small.0
