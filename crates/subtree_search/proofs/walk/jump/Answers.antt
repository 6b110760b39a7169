use Rattle.std.proofs.Common.{◌≡◌, ◌-◌, ◌<◌, length, take, Some, refl, sym, ap, subst, ◌∙◌, arith}
use Rattle.std.specs.List.{slice_get}
use Rattle.std.proofs.lemmas.Option.{slice_get-get_or}
use Rattle.settle_laws.specs.declared.found.Found.TheVariants.{Settled}
use Rattle.subtree_search.proofs.Jumping.{jumping-on, passed-from, passed-pushed, passed-smaller}
use Rattle.subtree_search.proofs.walk.jump.Goals as goal

pub pop-requires-in-loop-line : goal.pop-requires-in-loop-line
pop-requires-in-loop-line c =
    let passed = passed-from c.loop-line.walk.nodes.items c.deref.result.now c.in-Some.line.now c.as_slice.result.now c.deref.ensures.value c.as_slice.ensures (c.is_passed.ensures c.loop-line-test.true) in
    let t = c.requires.coming in
    passed-pushed c.args.forward.now c.loop-line.forward c.args.walk.now c.loop-line.walk c.args.found c.args.log.now c.loop-line.invariant c.in-Some.line.now passed t.0 t.1 t.2 t.3 t.4 t.5

pub loop-line-smaller : goal.loop-line-smaller
loop-line-smaller c =
    let passed = passed-from c.loop-line.walk.nodes.items c.deref.result.now c.in-Some.line.now c.as_slice.result.now c.deref.ensures.value c.as_slice.ensures (c.is_passed.ensures c.loop-line-test.true) in
    let rest : c.pop.new.self.items ≡ take (length c.loop-line.walk.nodes.items - 1) c.loop-line.walk.nodes.items = c.pop.ensures.rest ∙ ap (λ n. take (n - 1) c.loop-line.walk.nodes.items) (omega (arith, c.loop-line.walk.nodes.ok.0)) in
    passed-smaller c.args.forward.now c.loop-line.forward c.args.walk.now c.loop-line.walk c.args.found c.args.log.now c.loop-line.invariant c.in-Some.line.now passed c.pop.new.self.items rest

pub loop-line-preserved : goal.loop-line-preserved
loop-line-preserved c =
    let passed = passed-from c.loop-line.walk.nodes.items c.deref.result.now c.in-Some.line.now c.as_slice.result.now c.deref.ensures.value c.as_slice.ensures (c.is_passed.ensures c.loop-line-test.true) in
    let rest : c.pop.new.self.items ≡ take (length c.loop-line.walk.nodes.items - 1) c.loop-line.walk.nodes.items = c.pop.ensures.rest ∙ ap (λ n. take (n - 1) c.loop-line.walk.nodes.items) (omega (arith, c.loop-line.walk.nodes.ok.0)) in
    let line = c.in-Some.line.now in
    let lookup = c.in-Some.ensures.lookup in
    let there : slice_get c.args.log.now.lines c.in-Own.place ≡ Some line = subst (λ ls. slice_get ls c.in-Own.place ≡ Some line) c.lines.ensures
    (slice_get-get_or c.lines.result.now c.in-Own.place line lookup.3.0 ∙ ap (λ l. Some l) (sym lookup.1)) in
    jumping-on c.args.forward.now c.loop-line.forward c.args.walk.now c.loop-line.walk c.args.found c.args.log.now c.loop-line.invariant line passed c.pop.new.self.items rest
    c.in-Own.place c.in-Settled.tag (c.in-Settled.is ∙ ap (λ r. Settled r c.in-Settled.tag) c.in-Own.is) there c.pop-in-loop-line.new.self c.pop-in-loop-line.ensures _ refl refl refl refl refl
