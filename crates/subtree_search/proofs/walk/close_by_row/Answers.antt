use Rattle.std.proofs.Common.{◌≡◌, List, Ok, refl, sym, ap, subst, ◌∙◌, arith, append-nil}
use Rattle.std.specs.declared.alloc.AllocError.{AllocError}
use Rattle.fapp_model.specs.declared.literal.Literal.{Literal}
use Rattle.choice_counts.specs.ForwardStates.{ForwardState}
use Rattle.search_log.specs.declared.line.Ref.TheVariants.{Row}
use Rattle.nogood.specs.Rows.{row_literals}
use Rattle.search_log.specs.LogStates.{LogState}
use Rattle.settle_laws.specs.declared.found.Found.TheVariants.{Settled}
use Rattle.settle_laws.specs.RowLines.{IsLinedByRow}
use Rattle.settle_laws.specs.Worlds.{world}
use Rattle.subtree_search.specs.SearchSteps.{ComesTo}
use Rattle.subtree_search.proofs.Advancing.{closes-by-row, comes-still, count-few, passed-free, some-pushed}
use Rattle.subtree_search.proofs.walk.close_by_row.Goals as goal

pub returns-in_default : goal.returns-in_default
returns-in_default c = record {
  ready = c.requires.ready;
  level = refl;
  first = refl;
  seen = refl;
  front = refl;
  comes = λ root from now prefix same contents comes. comes-still {E = AllocError} c.args.forward.now.instance c.args.walk.now.level root from c.args.walk.now.nodes.items c.args.forward.now.pushed now c.args.log.now (Ok c.args.found) same comes;
  lighter = λ fuel. omega arith;
}

pub returns-in_default-line-clause-comes : goal.returns-in_default-line-clause-comes
returns-in_default-line-clause-comes c = λ root from now prefix same contents comes.
    subst (λ f. ComesTo {E = AllocError} c.args.forward.now.instance c.args.walk.now.level root from c.args.walk.now.nodes.items c.args.forward.now.pushed (world now.fuel now.bound now.shared c.args.log.now) (Ok f)) c.in-Settled.is
    (comes-still {E = AllocError} c.args.forward.now.instance c.args.walk.now.level root from c.args.walk.now.nodes.items c.args.forward.now.pushed now c.args.log.now (Ok c.args.found) same comes)

pub returns-in_default-find-clause-comes : goal.returns-in_default-find-clause-comes
returns-in_default-find-clause-comes c = λ root from now prefix same contents comes.
    subst (λ f. ComesTo {E = AllocError} c.args.forward.now.instance c.args.walk.now.level root from c.args.walk.now.nodes.items c.args.forward.now.pushed (world now.fuel now.bound now.shared c.args.log.now) (Ok f)) c.in-Settled.is
    (comes-still {E = AllocError} c.args.forward.now.instance c.args.walk.now.level root from c.args.walk.now.nodes.items c.args.forward.now.pushed now c.args.log.now (Ok c.args.found) same comes)

pub returns-then-not-is_passed-clause-comes : goal.returns-then-not-is_passed-clause-comes
returns-then-not-is_passed-clause-comes c = λ root from now prefix same contents comes.
    subst (λ f. ComesTo {E = AllocError} c.args.forward.now.instance c.args.walk.now.level root from c.args.walk.now.nodes.items c.args.forward.now.pushed (world now.fuel now.bound now.shared c.args.log.now) (Ok f)) c.in-Settled.is
    (comes-still {E = AllocError} c.args.forward.now.instance c.args.walk.now.level root from c.args.walk.now.nodes.items c.args.forward.now.pushed now c.args.log.now (Ok c.args.found) same comes)

pub returns-in_default-pop-clause-comes : goal.returns-in_default-pop-clause-comes
returns-in_default-pop-clause-comes c = λ root from now prefix same contents comes.
    subst (λ ns. ComesTo {E = AllocError} c.args.forward.now.instance c.args.walk.now.level root from ns c.args.forward.now.pushed (world now.fuel now.bound now.shared c.args.log.now) (Ok (Settled c.in-Settled.line c.in-Settled.tag))) (c.in_default-pop.ensures.items ∙ append-nil c.pop.new.self.items)
    (subst (λ f. ComesTo {E = AllocError} c.args.forward.now.instance c.args.walk.now.level root from c.args.walk.now.nodes.items c.args.forward.now.pushed (world now.fuel now.bound now.shared c.args.log.now) (Ok f)) c.in-Settled.is
    (comes-still {E = AllocError} c.args.forward.now.instance c.args.walk.now.level root from c.args.walk.now.nodes.items c.args.forward.now.pushed now c.args.log.now (Ok c.args.found) same comes))

pub pop-requires-2 : goal.pop-requires-2
pop-requires-2 c =
    let t = c.requires.coming in
    some-pushed AllocError c.args.forward.now.instance c.args.walk.now.level t.0 t.1 t.3 c.args.walk.now.nodes.items c.pop.new.self.items c.in-Some-pop.node c.in-Some-pop.ensures.items c.args.forward.now.pushed t.2 c.args.found t.5

pub add_by_row-requires : goal.add_by_row-requires
add_by_row-requires c =
    let t = c.requires.coming in
    count-few AllocError c.args.forward.now.instance c.args.walk.now.level t.0 t.1 t.3 c.args.walk.now.nodes.items c.pop.new.self.items c.in-Some-pop.node c.in-Some-pop.ensures.items c.args.forward.now.pushed t.2 c.args.found t.5 c.requires.ready.valid

pub returns-clause-comes : goal.returns-clause-comes
returns-clause-comes c = λ root from now prefix same contents comes.
    let cite = c.in-Some.cite in
    let seen = c.in-Some.ensures in
    let free = passed-free c.args.walk.now.nodes.items c.deref.result.now c.pop.new.self.items c.in-Some-pop.node c.literals.result.now (row_literals cite.content) c.deref.ensures.value c.literals.ensures c.in-Some-pop.ensures.items (c.is_passed.ensures c.if-not-is_passed.false) in
    closes-by-row AllocError c.args.forward.now.instance c.args.walk.now.level root from prefix c.args.walk.now.nodes.items c.pop.new.self.items c.in-Some-pop.node c.in-Some-pop.ensures.items c.args.forward.now.pushed now c.args.found comes
    c.requires.ready.valid c.requires.ready.level c.args.walk.now.seen.cites.items contents cite seen.0 free c.in-Settled.tag
    (c.in-Settled.is ∙ ap (λ r. Settled r c.in-Settled.tag) (c.in-Row.is ∙ ap Row (sym seen.1)))
    c.lesser-tag.result c.lesser-tag.ensures c.pop-2.new.self.pushed (ap (λ (s : ForwardState). s.pushed) c.pop-2.ensures) c.add_by_row.new.log c.add_by_row.result
    (λ i are. subst (λ (l : LogState). IsLinedByRow i cite c.lesser-tag.result c.in-Some-pop.node.path c.in-Some-pop.node.count l c.add_by_row.new.log c.add_by_row.result) (sym same) (c.add_by_row.ensures i are))
