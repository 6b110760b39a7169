use Rattle.std.proofs.Common.{◌≡◌, length, get_or, Err, Ok, sym, ap, subst, ◌∙◌, refl, inl, arith}
use Rattle.std.specs.declared.alloc.AllocError.{AllocError}
use Rattle.fapp_model.specs.declared.instance.Instance.{Instance}
use Rattle.fapp_model.specs.search.WorkOrder.{work_order}
use Rattle.tries_laws.proofs.PrefixParts.{prefix-is_partial}
use Rattle.search_log.specs.LogStates.{LogState}
use Rattle.settle_laws.specs.Worlds.{world}
use Rattle.settle_laws.proofs.Ends.{full-searched, tick-ends, tick-starts, ticked-open}
use Rattle.settle_laws.proofs.Fewer.{copied-noted}
use Rattle.settle_laws.proofs.Keeping.{keeps-same}
use Rattle.settle_laws.proofs.NextPaths.{next-short}
use Rattle.subtree_search.specs.Looking.{LooksAhead}
use Rattle.subtree_search.specs.SearchSteps.{IsVisited, Opens}
use Rattle.subtree_search.proofs.Looking.{ahead-found}
use Rattle.subtree_search.proofs.Visited.{full-length, next-at, path-count, path-valid, path-within, visited-err, written-length}
use Rattle.subtree_search.proofs.walk.visit.Goals as goal

pub returns-in-Decided-clause-visited : goal.returns-in-Decided-clause-visited
returns-in-Decided-clause-visited g c = (refl, c.in-Decided.ensures.entry c.args.log.now)

pub conclude-requires-clause-alive : goal.conclude-requires-clause-alive
conclude-requires-clause-alive g c =
    let ticked = c.in-Ticked.ensures.entry c.args.log.now in
    let old = world c.args.fuel.now (g.B.Bound.state c.args.bound.now) (g.H.Shared.state c.args.shared.now) c.args.log.now in
    let now = world c.enter.new.fuel (g.B.Bound.state c.enter.new.bound) (g.H.Shared.state c.enter.new.shared) c.args.log.now in
    let judged = ticked-open c.args.forward.now.instance c.args.walk.now.level c.args.forward.now.pushed old now c.in-Ticked.target ticked in
    (c.in-Ticked.target, ticked.own, judged.0, judged.1)

pub returns-in_err-found-clause-visited : goal.returns-in_err-found-clause-visited
returns-in_err-found-clause-visited g c =
    let f = c.args.forward.now in
    let old = world c.args.fuel.now (g.B.Bound.state c.args.bound.now) (g.H.Shared.state c.args.shared.now) c.args.log.now in
    let now = world c.enter.new.fuel (g.B.Bound.state c.enter.new.bound) (g.H.Shared.state c.enter.new.shared) c.args.log.now in
    let full = full-length f.instance f.pushed c.order-order.result.now c.pushed-depth.result.now (c.order-order.ensures ∙ ap work_order c.tables-tables.ensures) c.pushed-depth.ensures.literals (omega arith) in
    visited-err f.instance c.args.walk.now.level f.pushed c.args.walk.now.nodes.items c.args.walk.now.nodes.items old (world c.enter.new.fuel (g.B.Bound.state c.conclude.new.bound) (g.H.Shared.state c.enter.new.shared) c.conclude.new.log) c.from_residual.result c.from_residual.ensures.0
    (λ e. full-searched f.instance c.requires.ready.valid c.args.walk.now.level c.requires.ready.level f.pushed c.requires.prefix old now c.in-Ticked.target (c.in-Ticked.ensures.entry c.args.log.now)
    (prefix-is_partial f.instance f.pushed c.requires.prefix) full (g.B.Bound.state c.conclude.new.bound) c.conclude.new.log (Err e) c.in_err-found.ensures.concluded)

pub returns-then-depth-order-clause-ready : goal.returns-then-depth-order-clause-ready
returns-then-depth-order-clause-ready g c = record { valid = c.requires.ready.valid; level = c.requires.ready.level; room = written-length c.args.walk.now.plan.items c.conclude.new.plan c.args.walk.now.plan.len (omega (arith, c.args.walk.now.plan.ok.0)) (c.conclude.auto.plan ∙ ap length c.deref_mut.ensures.value) ∙ c.requires.ready.room }

pub returns-then-depth-order-clause-visited : goal.returns-then-depth-order-clause-visited
returns-then-depth-order-clause-visited g c =
    let f = c.args.forward.now in
    let old = world c.args.fuel.now (g.B.Bound.state c.args.bound.now) (g.H.Shared.state c.args.shared.now) c.args.log.now in
    let now = world c.enter.new.fuel (g.B.Bound.state c.enter.new.bound) (g.H.Shared.state c.enter.new.shared) c.args.log.now in
    let full = full-length f.instance f.pushed c.order-order.result.now c.pushed-depth.result.now (c.order-order.ensures ∙ ap work_order c.tables-tables.ensures) c.pushed-depth.ensures.literals (omega arith) in (
      refl,
      full-searched f.instance c.requires.ready.valid c.args.walk.now.level c.requires.ready.level f.pushed c.requires.prefix old now c.in-Ticked.target (c.in-Ticked.ensures.entry c.args.log.now)
          (prefix-is_partial f.instance f.pushed c.requires.prefix) full (g.B.Bound.state c.conclude.new.bound) c.conclude.new.log (Ok c.in_ok-found.found) c.in_ok-found.ensures.concluded,
    )

pub bounds-as_slice-path : goal.bounds-as_slice-path
bounds-as_slice-path g c =
    path-within c.args.forward.now.instance c.args.forward.now.pushed c.order-order.result.now c.pushed-depth.result.now (c.order-order.ensures ∙ ap work_order c.tables-tables.ensures) c.pushed-depth.ensures.literals c.requires.prefix (omega arith)
    c.as_slice.result.now (c.as_slice.ensures ∙ ap (λ (i : Instance). i.paths) (c.instance.ensures.value ∙ c.tables-tables.ensures))

pub choice_count-count-requires : goal.choice_count-count-requires
choice_count-count-requires g c =
    let same : c.as_slice.result.now ≡ c.args.forward.now.instance.paths = c.as_slice.ensures ∙ ap (λ (i : Instance). i.paths) (c.instance.ensures.value ∙ c.tables-tables.ensures) in
    path-valid c.args.forward.now.instance c.as_slice.result.now same _ c.index-as_slice-path.result (path-within c.args.forward.now.instance c.args.forward.now.pushed c.order-order.result.now c.pushed-depth.result.now (c.order-order.ensures ∙ ap work_order c.tables-tables.ensures) c.pushed-depth.ensures.literals c.requires.prefix (omega arith) c.as_slice.result.now same) c.index-as_slice-path.is c.requires.ready.valid

pub look_ahead-requires-clause-tag : goal.look_ahead-requires-clause-tag
look_ahead-requires-clause-tag g c = (c.in-Ticked.ensures.entry c.args.log.now).own

pub returns-in_err-found-2-clause-visited : goal.returns-in_err-found-2-clause-visited
returns-in_err-found-2-clause-visited g c =
    let f = c.args.forward.now in
    let old = world c.args.fuel.now (g.B.Bound.state c.args.bound.now) (g.H.Shared.state c.args.shared.now) c.args.log.now in
    let now = world c.enter.new.fuel (g.B.Bound.state c.enter.new.bound) (g.H.Shared.state c.enter.new.shared) c.args.log.now in
    let same : c.look_ahead.new.log ≡ c.args.log.now = c.in_err-found-2.ensures.looks in
    subst (λ (l : LogState). IsVisited f.instance c.args.walk.now.level f.pushed c.args.walk.now.nodes.items c.args.walk.now.nodes.items old (world c.enter.new.fuel (g.B.Bound.state c.enter.new.bound) (g.H.Shared.state c.enter.new.shared) l) c.from_residual-in_err-found-2.result) (sym same)
    (visited-err f.instance c.args.walk.now.level f.pushed c.args.walk.now.nodes.items c.args.walk.now.nodes.items old now c.from_residual-in_err-found-2.result c.from_residual-in_err-found-2.ensures.0
    (λ e. tick-ends f.instance c.requires.ready.valid c.args.walk.now.level c.requires.ready.level f.pushed c.requires.prefix old now c.in-Ticked.target (c.in-Ticked.ensures.entry c.args.log.now) now (keeps-same f.instance now) refl refl (inl (c.in-Ticked.ensures.entry c.args.log.now).least) e))

pub returns-in-Some-clause-visited : goal.returns-in-Some-clause-visited
returns-in-Some-clause-visited g c =
    let f = c.args.forward.now in
    let old = world c.args.fuel.now (g.B.Bound.state c.args.bound.now) (g.H.Shared.state c.args.shared.now) c.args.log.now in
    let now = world c.enter.new.fuel (g.B.Bound.state c.enter.new.bound) (g.H.Shared.state c.enter.new.shared) c.args.log.now in
    let next = next-at f.instance f.pushed c.order-order.result.now c.pushed-depth.result.now (c.order-order.ensures ∙ ap work_order c.tables-tables.ensures) c.pushed-depth.ensures.literals (omega arith) in (
      refl,
      ahead-found f.instance c.requires.ready.valid c.args.walk.now.level c.requires.ready.level f.pushed c.requires.prefix old now c.in-Ticked.target (c.in-Ticked.ensures.entry c.args.log.now)
          (next-short f.instance f.pushed c.requires.prefix (get_or c.order-order.result.now (length c.pushed-depth.result.now) 0) next) c.look_ahead.new.log c.in-Some.found
          (subst (λ o. LooksAhead {E = AllocError} f.instance f.pushed c.in-Ticked.target c.args.log.now c.look_ahead.new.log (Ok o)) c.in-Some.is c.in_ok-found-2.ensures.looks),
    )

pub returns-in_err-push-clause-visited : goal.returns-in_err-push-clause-visited
returns-in_err-push-clause-visited g c =
    let f = c.args.forward.now in
    let old = world c.args.fuel.now (g.B.Bound.state c.args.bound.now) (g.H.Shared.state c.args.shared.now) c.args.log.now in
    let now = world c.enter.new.fuel (g.B.Bound.state c.enter.new.bound) (g.H.Shared.state c.enter.new.shared) c.args.log.now in
    let same : c.look_ahead.new.log ≡ c.args.log.now = subst (λ o. LooksAhead {E = AllocError} f.instance f.pushed c.in-Ticked.target c.args.log.now c.look_ahead.new.log (Ok o)) c.in_default.is c.in_ok-found-2.ensures.looks in
    subst (λ (l : LogState). IsVisited f.instance c.args.walk.now.level f.pushed c.args.walk.now.nodes.items c.push.new.self.items old (world c.enter.new.fuel (g.B.Bound.state c.enter.new.bound) (g.H.Shared.state c.enter.new.shared) l) c.from_residual-in_err-push.result) (sym same)
    (visited-err f.instance c.args.walk.now.level f.pushed c.args.walk.now.nodes.items c.push.new.self.items old now c.from_residual-in_err-push.result c.from_residual-in_err-push.ensures.0
    (λ e. tick-ends f.instance c.requires.ready.valid c.args.walk.now.level c.requires.ready.level f.pushed c.requires.prefix old now c.in-Ticked.target (c.in-Ticked.ensures.entry c.args.log.now) now (keeps-same f.instance now) refl refl (inl (c.in-Ticked.ensures.entry c.args.log.now).least) e))

pub returns-clause-visited : goal.returns-clause-visited
returns-clause-visited g c =
    let f = c.args.forward.now in
    let old = world c.args.fuel.now (g.B.Bound.state c.args.bound.now) (g.H.Shared.state c.args.shared.now) c.args.log.now in
    let now = world c.enter.new.fuel (g.B.Bound.state c.enter.new.bound) (g.H.Shared.state c.enter.new.shared) c.args.log.now in
    let ticked = c.in-Ticked.ensures.entry c.args.log.now in
    let slice : c.as_slice.result.now ≡ f.instance.paths = c.as_slice.ensures ∙ ap (λ (i : Instance). i.paths) (c.instance.ensures.value ∙ c.tables-tables.ensures) in
    let within = path-within f.instance f.pushed c.order-order.result.now c.pushed-depth.result.now (c.order-order.ensures ∙ ap work_order c.tables-tables.ensures) c.pushed-depth.ensures.literals c.requires.prefix (omega arith) c.as_slice.result.now slice in
    let same : c.look_ahead.new.log ≡ c.args.log.now = subst (λ o. LooksAhead {E = AllocError} f.instance f.pushed c.in-Ticked.target c.args.log.now c.look_ahead.new.log (Ok o)) c.in_default.is c.in_ok-found-2.ensures.looks in
    subst (λ (l : LogState). Opens f.instance c.args.walk.now.level f.pushed c.args.walk.now.nodes.items c.push.new.self.items old (world c.enter.new.fuel (g.B.Bound.state c.enter.new.bound) (g.H.Shared.state c.enter.new.shared) l)) (sym same)
    (record {
      node = record { tag = c.in-Ticked.target; path = get_or c.order-order.result.now (length c.pushed-depth.result.now) 0; choice = 0; count = c.choice_count-count.result; refs = c.new.result };
      added = c.in_ok-push.ensures.items;
      trying = tick-starts f.instance c.requires.ready.valid c.args.walk.now.level c.requires.ready.level f.pushed c.requires.prefix old now c.in-Ticked.target ticked
          (record { tag = c.in-Ticked.target; path = get_or c.order-order.result.now (length c.pushed-depth.result.now) 0; choice = 0; count = c.choice_count-count.result; refs = c.new.result })
          (next-at f.instance f.pushed c.order-order.result.now c.pushed-depth.result.now (c.order-order.ensures ∙ ap work_order c.tables-tables.ensures) c.pushed-depth.ensures.literals (omega arith))
          (c.choice_count-count.ensures.count ∙ path-count f.instance c.as_slice.result.now slice _ c.index-as_slice-path.result within c.index-as_slice-path.is)
          refl refl c.new.ensures;
      few = omega (arith, c.choice_count-count.ensures.few);
      took = omega (arith, ticked.took);
    })

pub returns-in-Cited-clause-held : goal.returns-in-Cited-clause-held
returns-in-Cited-clause-held g c = λ held. copied-noted (g.H.Shared.state c.enter.new.shared).copied c.args.walk.now.seen.cites.items c.note.new.self.cites.items c.in-Cited.cite
    (c.in-Cited.ensures.copied c.args.walk.now.seen.cites.items held) (c.in-Cited.ensures.entry c.args.log.now).1 c.note.ensures

pub returns-in-Cited-clause-visited : goal.returns-in-Cited-clause-visited
returns-in-Cited-clause-visited g c = (refl, (c.in-Cited.ensures.entry c.args.log.now).0)
