use Rattle.std.proofs.Common.{◌≡◌, Err, Ok, sym, ap, subst, arith}
use Rattle.cert_lines.proofs.ListLaws.{few_choices}
use Rattle.choice_counts.specs.ForwardStates.{ForwardState}
use Rattle.fapp_model.specs.search.Prefixes.{IsPrefix}
use Rattle.settle_laws.specs.Worlds.{world}
use Rattle.settle_laws.proofs.Fewer.{copied-contents}
use Rattle.std.specs.declared.alloc.AllocError.{AllocError}
use Rattle.tries_laws.proofs.PrefixParts.{prefix-is_partial}
use Rattle.settle_laws.proofs.TagCodes.{tag-small}
use Rattle.settle_laws.proofs.NextPaths.{next-apart, next-prefix, next-small}
use Rattle.subtree_search.specs.SearchSteps.{ComesTo, IsAdvanced, IsVisited}
use Rattle.subtree_search.proofs.Advancing.{advanced-err, closes-ending, closes-to, innermost, passed-by, trying-at, visits}
use Rattle.subtree_search.proofs.walk.try_next.Goals as goal

pub returns-in_err-found-clause-advanced : goal.returns-in_err-found-clause-advanced
returns-in_err-found-clause-advanced g c =
    let f = c.args.forward.now in
    let now = world c.args.fuel.now (g.B.Bound.state c.args.bound.now) (g.H.Shared.state c.args.shared.now) c.args.log.now in
    λ root from prefix begins trying.
    let h = passed-by f.instance c.args.walk.now.level root from prefix c.requires.ready.level c.pop.new.self.items c.in-Some.node c.pass_settled.new.node f.pushed now c.args.walk.now.recall.first begins c.pass_settled.ensures
    (trying-at f.instance c.args.walk.now.level root from prefix c.args.walk.now.nodes.items c.pop.new.self.items c.in-Some.node f.pushed now c.in-Some.ensures.items trying) in
    let inner = innermost f.instance c.args.walk.now.level root from prefix c.pop.new.self.items c.pass_settled.new.node f.pushed now h in
    let after = world c.args.fuel.now (g.B.Bound.state c.args.bound.now) (g.H.Shared.state c.args.shared.now) c.add_explained.new.log in
    subst (λ (s : ForwardState). IsAdvanced f.instance c.args.walk.now.level root from c.pop.new.self.items s.pushed after c.from_residual.result) (sym c.in_err-found.ensures.front)
    (advanced-err f.instance c.args.walk.now.level root from c.pop.new.self.items f.pushed after c.from_residual.result c.from_residual.ensures.0
    (λ e. closes-ending f.instance c.args.walk.now.level root from prefix c.requires.ready.valid c.requires.ready.level c.pop.new.self.items c.pass_settled.new.node f.pushed now h (omega (arith, inner.trying.within, c.if-node.true)) c.add_explained.new.log (Err e) c.args.walk.now.seen.cites.items (copied-contents (g.H.Shared.state c.args.shared.now) c.args.walk.now.seen.cites.items (g.met.H.Shared.one_content c.args.shared.now) c.requires.held) c.in_err-found.ensures.lined.0 c.in_err-found.ensures.lined.1 c.in_err-found.ensures.lined.2 tt))

pub returns-then-node-clause-advanced : goal.returns-then-node-clause-advanced
returns-then-node-clause-advanced g c =
    let f = c.args.forward.now in
    let now = world c.args.fuel.now (g.B.Bound.state c.args.bound.now) (g.H.Shared.state c.args.shared.now) c.args.log.now in
    λ root from prefix begins trying.
    let h = passed-by f.instance c.args.walk.now.level root from prefix c.requires.ready.level c.pop.new.self.items c.in-Some.node c.pass_settled.new.node f.pushed now c.args.walk.now.recall.first begins c.pass_settled.ensures
    (trying-at f.instance c.args.walk.now.level root from prefix c.args.walk.now.nodes.items c.pop.new.self.items c.in-Some.node f.pushed now c.in-Some.ensures.items trying) in
    let inner = innermost f.instance c.args.walk.now.level root from prefix c.pop.new.self.items c.pass_settled.new.node f.pushed now h in
    let after = world c.args.fuel.now (g.B.Bound.state c.args.bound.now) (g.H.Shared.state c.args.shared.now) c.add_explained.new.log in
    subst (λ (s : ForwardState). ComesTo {E = AllocError} f.instance c.args.walk.now.level root from c.pop.new.self.items s.pushed after (Ok c.in_ok-found.found)) (sym c.in_ok-found.ensures.front)
    (closes-to f.instance c.args.walk.now.level root from prefix c.requires.ready.valid c.requires.ready.level c.pop.new.self.items c.pass_settled.new.node f.pushed now h (omega (arith, inner.trying.within, c.if-node.true)) c.add_explained.new.log (Ok c.in_ok-found.found) c.args.walk.now.seen.cites.items (copied-contents (g.H.Shared.state c.args.shared.now) c.args.walk.now.seen.cites.items (g.met.H.Shared.one_content c.args.shared.now) c.requires.held) c.in_ok-found.ensures.lined.0 c.in_ok-found.ensures.lined.1 c.in_ok-found.ensures.lined.2)

pub overflow_cast-node : goal.overflow_cast-node
overflow_cast-node g c =
    let f = c.args.forward.now in
    let now = world c.args.fuel.now (g.B.Bound.state c.args.bound.now) (g.H.Shared.state c.args.shared.now) c.args.log.now in
    let t = c.requires.trying in
    let h = passed-by f.instance c.args.walk.now.level t.0 t.1 t.2 c.requires.ready.level c.pop.new.self.items c.in-Some.node c.pass_settled.new.node f.pushed now c.args.walk.now.recall.first t.3 c.pass_settled.ensures
    (trying-at f.instance c.args.walk.now.level t.0 t.1 t.2 c.args.walk.now.nodes.items c.pop.new.self.items c.in-Some.node f.pushed now c.in-Some.ensures.items t.4) in
    let inner = innermost f.instance c.args.walk.now.level t.0 t.1 t.2 c.pop.new.self.items c.pass_settled.new.node f.pushed now h in
    let few = few_choices f.instance c.requires.ready.valid c.pass_settled.new.node.path (next-small f.instance f.pushed inner.prefix c.pass_settled.new.node.path inner.trying.next) in
    omega (arith, few, inner.trying.counted, c.if-node.false)

pub push-requires-clause-path : goal.push-requires-clause-path
push-requires-clause-path g c =
    let f = c.args.forward.now in
    let now = world c.args.fuel.now (g.B.Bound.state c.args.bound.now) (g.H.Shared.state c.args.shared.now) c.args.log.now in
    let t = c.requires.trying in
    let h = passed-by f.instance c.args.walk.now.level t.0 t.1 t.2 c.requires.ready.level c.pop.new.self.items c.in-Some.node c.pass_settled.new.node f.pushed now c.args.walk.now.recall.first t.3 c.pass_settled.ensures
    (trying-at f.instance c.args.walk.now.level t.0 t.1 t.2 c.args.walk.now.nodes.items c.pop.new.self.items c.in-Some.node f.pushed now c.in-Some.ensures.items t.4) in
    let inner = innermost f.instance c.args.walk.now.level t.0 t.1 t.2 c.pop.new.self.items c.pass_settled.new.node f.pushed now h in
    next-small f.instance f.pushed inner.prefix c.pass_settled.new.node.path inner.trying.next

pub push-requires-clause-choice : goal.push-requires-clause-choice
push-requires-clause-choice g c =
    let f = c.args.forward.now in
    let now = world c.args.fuel.now (g.B.Bound.state c.args.bound.now) (g.H.Shared.state c.args.shared.now) c.args.log.now in
    let t = c.requires.trying in
    let h = passed-by f.instance c.args.walk.now.level t.0 t.1 t.2 c.requires.ready.level c.pop.new.self.items c.in-Some.node c.pass_settled.new.node f.pushed now c.args.walk.now.recall.first t.3 c.pass_settled.ensures
    (trying-at f.instance c.args.walk.now.level t.0 t.1 t.2 c.args.walk.now.nodes.items c.pop.new.self.items c.in-Some.node f.pushed now c.in-Some.ensures.items t.4) in
    let inner = innermost f.instance c.args.walk.now.level t.0 t.1 t.2 c.pop.new.self.items c.pass_settled.new.node f.pushed now h in
    omega (arith, inner.trying.counted, c.if-node.false)

pub push-requires-clause-free : goal.push-requires-clause-free
push-requires-clause-free g c =
    let f = c.args.forward.now in
    let now = world c.args.fuel.now (g.B.Bound.state c.args.bound.now) (g.H.Shared.state c.args.shared.now) c.args.log.now in
    let t = c.requires.trying in
    let h = passed-by f.instance c.args.walk.now.level t.0 t.1 t.2 c.requires.ready.level c.pop.new.self.items c.in-Some.node c.pass_settled.new.node f.pushed now c.args.walk.now.recall.first t.3 c.pass_settled.ensures
    (trying-at f.instance c.args.walk.now.level t.0 t.1 t.2 c.args.walk.now.nodes.items c.pop.new.self.items c.in-Some.node f.pushed now c.in-Some.ensures.items t.4) in
    let inner = innermost f.instance c.args.walk.now.level t.0 t.1 t.2 c.pop.new.self.items c.pass_settled.new.node f.pushed now h in
    next-apart f.instance f.pushed inner.prefix c.pass_settled.new.node.path inner.trying.next

pub visit-requires-clause-prefix : goal.visit-requires-clause-prefix
visit-requires-clause-prefix g c =
    let f = c.args.forward.now in
    let now = world c.args.fuel.now (g.B.Bound.state c.args.bound.now) (g.H.Shared.state c.args.shared.now) c.args.log.now in
    let t = c.requires.trying in
    let h = passed-by f.instance c.args.walk.now.level t.0 t.1 t.2 c.requires.ready.level c.pop.new.self.items c.in-Some.node c.pass_settled.new.node f.pushed now c.args.walk.now.recall.first t.3 c.pass_settled.ensures
    (trying-at f.instance c.args.walk.now.level t.0 t.1 t.2 c.args.walk.now.nodes.items c.pop.new.self.items c.in-Some.node f.pushed now c.in-Some.ensures.items t.4) in
    let inner = innermost f.instance c.args.walk.now.level t.0 t.1 t.2 c.pop.new.self.items c.pass_settled.new.node f.pushed now h in
    subst (λ (s : ForwardState). IsPrefix s.instance s.pushed) (sym c.push.ensures)
    (next-prefix f.instance f.pushed inner.prefix c.pass_settled.new.node.path inner.trying.next c.pass_settled.new.node.choice (omega (arith, inner.trying.counted, c.if-node.false)))

pub returns-clause-advanced : goal.returns-clause-advanced
returns-clause-advanced g c =
    let f = c.args.forward.now in
    let now = world c.args.fuel.now (g.B.Bound.state c.args.bound.now) (g.H.Shared.state c.args.shared.now) c.args.log.now in
    let after = world c.visit.new.fuel (g.B.Bound.state c.visit.new.bound) (g.H.Shared.state c.visit.new.shared) c.visit.new.log in
    let same : c.push.new.self.instance ≡ f.instance = ap (λ (s : ForwardState). s.instance) c.push.ensures in
    λ root from prefix begins trying.
    let h = passed-by f.instance c.args.walk.now.level root from prefix c.requires.ready.level c.pop.new.self.items c.in-Some.node c.pass_settled.new.node f.pushed now c.args.walk.now.recall.first begins c.pass_settled.ensures
    (trying-at f.instance c.args.walk.now.level root from prefix c.args.walk.now.nodes.items c.pop.new.self.items c.in-Some.node f.pushed now c.in-Some.ensures.items trying) in
    subst (λ (s : ForwardState). IsAdvanced f.instance c.args.walk.now.level root from c.visit.new.walk.nodes.items s.pushed after c.visit.result) (sym c.visit.ensures.front)
    (visits f.instance c.args.walk.now.level root from prefix c.requires.ready.valid c.requires.ready.level c.pop.new.self.items c.pass_settled.new.node f.pushed now h c.if-node.false
    c.push.new.self.pushed (ap (λ (s : ForwardState). s.pushed) c.push.ensures) c.push-2.new.self.items c.in_ok-push.ensures.items c.visit.new.walk.nodes.items after c.visit.result
    (subst (λ i. IsVisited i c.args.walk.now.level c.push.new.self.pushed c.push-2.new.self.items c.visit.new.walk.nodes.items now after c.visit.result) same c.visit.ensures.visited))

pub add_explained-requires-clause-asked : goal.add_explained-requires-clause-asked
add_explained-requires-clause-asked g c =
    let f = c.args.forward.now in
    let now = world c.args.fuel.now (g.B.Bound.state c.args.bound.now) (g.H.Shared.state c.args.shared.now) c.args.log.now in
    let t = c.requires.trying in
    let h = passed-by f.instance c.args.walk.now.level t.0 t.1 t.2 c.requires.ready.level c.pop.new.self.items c.in-Some.node c.pass_settled.new.node f.pushed now c.args.walk.now.recall.first t.3 c.pass_settled.ensures
    (trying-at f.instance c.args.walk.now.level t.0 t.1 t.2 c.args.walk.now.nodes.items c.pop.new.self.items c.in-Some.node f.pushed now c.in-Some.ensures.items t.4) in
    let inner = innermost f.instance c.args.walk.now.level t.0 t.1 t.2 c.pop.new.self.items c.pass_settled.new.node f.pushed now h in
    record {
      valid = c.requires.ready.valid;
      partial = prefix-is_partial f.instance f.pushed inner.prefix;
      tag = tag-small f.instance c.args.walk.now.level c.pass_settled.new.node.tag c.requires.ready.level (omega (arith, inner.trying.target));
      small = next-small f.instance f.pushed inner.prefix c.pass_settled.new.node.path inner.trying.next;
      counted = inner.trying.counted;
      apart = next-apart f.instance f.pushed inner.prefix c.pass_settled.new.node.path inner.trying.next;
    }

pub add_explained-requires-clause-prefix : goal.add_explained-requires-clause-prefix
add_explained-requires-clause-prefix g c =
    let f = c.args.forward.now in
    let now = world c.args.fuel.now (g.B.Bound.state c.args.bound.now) (g.H.Shared.state c.args.shared.now) c.args.log.now in
    let t = c.requires.trying in
    let h = passed-by f.instance c.args.walk.now.level t.0 t.1 t.2 c.requires.ready.level c.pop.new.self.items c.in-Some.node c.pass_settled.new.node f.pushed now c.args.walk.now.recall.first t.3 c.pass_settled.ensures
    (trying-at f.instance c.args.walk.now.level t.0 t.1 t.2 c.args.walk.now.nodes.items c.pop.new.self.items c.in-Some.node f.pushed now c.in-Some.ensures.items t.4) in
    let inner = innermost f.instance c.args.walk.now.level t.0 t.1 t.2 c.pop.new.self.items c.pass_settled.new.node f.pushed now h in
    inner.prefix

pub add_explained-requires-clause-closed : goal.add_explained-requires-clause-closed
add_explained-requires-clause-closed g c =
    let f = c.args.forward.now in
    let now = world c.args.fuel.now (g.B.Bound.state c.args.bound.now) (g.H.Shared.state c.args.shared.now) c.args.log.now in
    let t = c.requires.trying in
    let h = passed-by f.instance c.args.walk.now.level t.0 t.1 t.2 c.requires.ready.level c.pop.new.self.items c.in-Some.node c.pass_settled.new.node f.pushed now c.args.walk.now.recall.first t.3 c.pass_settled.ensures
    (trying-at f.instance c.args.walk.now.level t.0 t.1 t.2 c.args.walk.now.nodes.items c.pop.new.self.items c.in-Some.node f.pushed now c.in-Some.ensures.items t.4) in
    let inner = innermost f.instance c.args.walk.now.level t.0 t.1 t.2 c.pop.new.self.items c.pass_settled.new.node f.pushed now h in
    λ i l. inner.trying.choices.settled i (omega (arith, l, c.if-node.true))

pub pass_settled-requires-clause-asked : goal.pass_settled-requires-clause-asked
pass_settled-requires-clause-asked g c =
    let f = c.args.forward.now in
    let now = world c.args.fuel.now (g.B.Bound.state c.args.bound.now) (g.H.Shared.state c.args.shared.now) c.args.log.now in
    let t = c.requires.trying in
    let h = trying-at f.instance c.args.walk.now.level t.0 t.1 t.2 c.args.walk.now.nodes.items c.pop.new.self.items c.in-Some.node f.pushed now c.in-Some.ensures.items t.4 in
    let inner = innermost f.instance c.args.walk.now.level t.0 t.1 t.2 c.pop.new.self.items c.in-Some.node f.pushed now h in
    record {
      valid = c.requires.ready.valid;
      partial = prefix-is_partial f.instance f.pushed inner.prefix;
      tag = tag-small f.instance c.args.walk.now.level c.in-Some.node.tag c.requires.ready.level (omega (arith, inner.trying.target));
      small = next-small f.instance f.pushed inner.prefix c.in-Some.node.path inner.trying.next;
      counted = inner.trying.counted;
      apart = next-apart f.instance f.pushed inner.prefix c.in-Some.node.path inner.trying.next;
    }

pub pass_settled-requires-clause-within : goal.pass_settled-requires-clause-within
pass_settled-requires-clause-within g c =
    let f = c.args.forward.now in
    let now = world c.args.fuel.now (g.B.Bound.state c.args.bound.now) (g.H.Shared.state c.args.shared.now) c.args.log.now in
    let t = c.requires.trying in
    let h = trying-at f.instance c.args.walk.now.level t.0 t.1 t.2 c.args.walk.now.nodes.items c.pop.new.self.items c.in-Some.node f.pushed now c.in-Some.ensures.items t.4 in
    let inner = innermost f.instance c.args.walk.now.level t.0 t.1 t.2 c.pop.new.self.items c.in-Some.node f.pushed now h in
    inner.trying.within
