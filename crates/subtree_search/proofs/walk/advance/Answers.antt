use Rattle.std.proofs.Common.{◌≡◌, List, ◌≤◌, Ok, Err, Some, refl, sym, ap, subst, ◌∙◌, arith}
use Rattle.std.specs.declared.alloc.AllocError.{AllocError}
use Rattle.fapp_model.specs.declared.instance.Instance.{Instance}
use Rattle.fapp_model.specs.search.Prefixes.{IsPrefix}
use Rattle.choice_counts.specs.ForwardStates.{ForwardState}
use Rattle.settle_laws.specs.declared.node.Node.{Node}
use Rattle.settle_laws.specs.Explained.{AreCitesCopied}
use Rattle.settle_laws.specs.Worlds.{world}
use Rattle.settle_laws.proofs.Fewer.{copied-contents}
use Rattle.subtree_search.specs.declared.seen.SeenRows.{SeenRows}
use Rattle.subtree_search.specs.SearchSteps.{ComesTo, IsAdvanced, Lightens}
use Rattle.subtree_search.specs.Walks.{work_left}
use Rattle.subtree_search.proofs.Advancing.{advanced-err, comes-as, comes-ending}
use Rattle.subtree_search.proofs.Exploring.{err-any}
use Rattle.subtree_search.proofs.walk.advance.Goals as goal

pub close_by_row-requires-clause-coming : goal.close_by_row-requires-clause-coming
close_by_row-requires-clause-coming g c =
    let t = c.requires.trying in
    let now = world c.try_next.new.fuel (g.B.Bound.state c.try_next.new.bound) (g.H.Shared.state c.try_next.new.shared) c.try_next.new.log in
    let came = subst (λ o. IsAdvanced {E = AllocError} c.args.forward.now.instance c.args.walk.now.level t.0 t.1 c.try_next.new.walk.nodes.items c.try_next.new.forward.pushed now (Ok o)) c.in-Some.is (c.in_ok-found.ensures.advanced t.0 t.1 t.2 t.3 t.4) in
    let at = ap (λ (s : ForwardState). s.instance) c.try_next.ensures.front in (
      t.0,
      t.1,
      now,
      subst (λ i. IsPrefix i t.0) (sym at) t.2,
      refl,
      comes-as {E = AllocError} c.args.forward.now.instance c.try_next.new.forward.instance (sym at) c.args.walk.now.level c.try_next.new.walk.level (sym c.try_next.ensures.level) t.0 t.1 c.try_next.new.walk.nodes.items c.try_next.new.forward.pushed now (Ok c.in-Some.found) came,
    )

pub jump-requires-clause-coming : goal.jump-requires-clause-coming
jump-requires-clause-coming g c =
    let t = c.requires.trying in
    let now = world c.try_next.new.fuel (g.B.Bound.state c.try_next.new.bound) (g.H.Shared.state c.try_next.new.shared) c.try_next.new.log in
    let then = world c.try_next.new.fuel (g.B.Bound.state c.try_next.new.bound) (g.H.Shared.state c.try_next.new.shared) c.close_by_row.new.log in
    let came = subst (λ o. IsAdvanced {E = AllocError} c.args.forward.now.instance c.args.walk.now.level t.0 t.1 c.try_next.new.walk.nodes.items c.try_next.new.forward.pushed now (Ok o)) c.in-Some.is (c.in_ok-found.ensures.advanced t.0 t.1 t.2 t.3 t.4) in
    let at = ap (λ (s : ForwardState). s.instance) c.try_next.ensures.front in
    let after = ap (λ (s : ForwardState). s.instance) c.close_by_row.ensures.front in
    let prefix = subst (λ i. IsPrefix i t.0) (sym at) t.2 in
    let contents = copied-contents (g.H.Shared.state c.try_next.new.shared) c.try_next.new.walk.seen.cites.items (g.met.H.Shared.one_content c.try_next.new.shared) c.try_next.ensures.held in
    let here = comes-as {E = AllocError} c.args.forward.now.instance c.try_next.new.forward.instance (sym at) c.args.walk.now.level c.try_next.new.walk.level (sym c.try_next.ensures.level) t.0 t.1 c.try_next.new.walk.nodes.items c.try_next.new.forward.pushed now (Ok c.in-Some.found) came in (
      t.0,
      t.1,
      then,
      subst (λ i. IsPrefix i t.0) (sym after) prefix,
      refl,
      comes-as {E = AllocError} c.try_next.new.forward.instance c.close_by_row.new.forward.instance (sym after) c.try_next.new.walk.level c.close_by_row.new.walk.level (sym c.close_by_row.ensures.level) t.0 t.1 c.close_by_row.new.walk.nodes.items c.close_by_row.new.forward.pushed then (Ok c.in_ok-settled.settled)
          (c.in_ok-settled.ensures.comes t.0 t.1 now prefix refl contents here),
    )

pub returns-in_err-settled-clause-held : goal.returns-in_err-settled-clause-held
returns-in_err-settled-clause-held g c = subst (λ (seen : SeenRows). AreCitesCopied (g.H.Shared.state c.try_next.new.shared).copied seen.cites.items) (sym c.close_by_row.ensures.seen) c.try_next.ensures.held

pub returns-clause-held : goal.returns-clause-held
returns-clause-held g c = subst (λ (seen : SeenRows). AreCitesCopied (g.H.Shared.state c.try_next.new.shared).copied seen.cites.items) (sym (c.remember.ensures.seen ∙ (c.jump.ensures.seen ∙ c.close_by_row.ensures.seen))) c.try_next.ensures.held

pub returns-in_err-settled-clause-advanced : goal.returns-in_err-settled-clause-advanced
returns-in_err-settled-clause-advanced g c = λ root from prefix begins trying.
    let now = world c.try_next.new.fuel (g.B.Bound.state c.try_next.new.bound) (g.H.Shared.state c.try_next.new.shared) c.try_next.new.log in
    let then = world c.try_next.new.fuel (g.B.Bound.state c.try_next.new.bound) (g.H.Shared.state c.try_next.new.shared) c.close_by_row.new.log in
    let came = subst (λ o. IsAdvanced {E = AllocError} c.args.forward.now.instance c.args.walk.now.level root from c.try_next.new.walk.nodes.items c.try_next.new.forward.pushed now (Ok o)) c.in-Some.is (c.in_ok-found.ensures.advanced root from prefix begins trying) in
    let at = ap (λ (s : ForwardState). s.instance) c.try_next.ensures.front in
    let contents = copied-contents (g.H.Shared.state c.try_next.new.shared) c.try_next.new.walk.seen.cites.items (g.met.H.Shared.one_content c.try_next.new.shared) c.try_next.ensures.held in
    let here = comes-as {E = AllocError} c.args.forward.now.instance c.try_next.new.forward.instance (sym at) c.args.walk.now.level c.try_next.new.walk.level (sym c.try_next.ensures.level) root from c.try_next.new.walk.nodes.items c.try_next.new.forward.pushed now (Ok c.in-Some.found) came in
    let closed = c.in_err-settled.ensures.comes root from now (subst (λ i. IsPrefix i root) (sym at) prefix) refl contents here in
    let back = comes-as {E = AllocError} c.try_next.new.forward.instance c.args.forward.now.instance at c.try_next.new.walk.level c.args.walk.now.level c.try_next.ensures.level root from c.close_by_row.new.walk.nodes.items c.close_by_row.new.forward.pushed then (Err c.in_err-settled.field-0.0) closed in
    advanced-err c.args.forward.now.instance c.args.walk.now.level root from c.close_by_row.new.walk.nodes.items c.close_by_row.new.forward.pushed then c.from_residual-in_err-settled.result c.from_residual-in_err-settled.ensures.0
    (λ e. err-any c.args.forward.now.instance c.args.walk.now.level root from then c.in_err-settled.field-0.0
    (comes-ending c.args.forward.now.instance c.args.walk.now.level root from c.close_by_row.new.walk.nodes.items c.close_by_row.new.forward.pushed then (Err c.in_err-settled.field-0.0) tt back) e)

pub returns-clause-advanced : goal.returns-clause-advanced
returns-clause-advanced g c = λ root from prefix begins trying.
    let now = world c.try_next.new.fuel (g.B.Bound.state c.try_next.new.bound) (g.H.Shared.state c.try_next.new.shared) c.try_next.new.log in
    let then = world c.try_next.new.fuel (g.B.Bound.state c.try_next.new.bound) (g.H.Shared.state c.try_next.new.shared) c.close_by_row.new.log in
    let came = subst (λ o. IsAdvanced {E = AllocError} c.args.forward.now.instance c.args.walk.now.level root from c.try_next.new.walk.nodes.items c.try_next.new.forward.pushed now (Ok o)) c.in-Some.is (c.in_ok-found.ensures.advanced root from prefix begins trying) in
    let at = ap (λ (s : ForwardState). s.instance) c.try_next.ensures.front in
    let after = ap (λ (s : ForwardState). s.instance) c.close_by_row.ensures.front in
    let there = subst (λ i. IsPrefix i root) (sym at) prefix in
    let contents = copied-contents (g.H.Shared.state c.try_next.new.shared) c.try_next.new.walk.seen.cites.items (g.met.H.Shared.one_content c.try_next.new.shared) c.try_next.ensures.held in
    let here = comes-as {E = AllocError} c.args.forward.now.instance c.try_next.new.forward.instance (sym at) c.args.walk.now.level c.try_next.new.walk.level (sym c.try_next.ensures.level) root from c.try_next.new.walk.nodes.items c.try_next.new.forward.pushed now (Ok c.in-Some.found) came in
    let closed = comes-as {E = AllocError} c.try_next.new.forward.instance c.close_by_row.new.forward.instance (sym after) c.try_next.new.walk.level c.close_by_row.new.walk.level (sym c.close_by_row.ensures.level) root from c.close_by_row.new.walk.nodes.items c.close_by_row.new.forward.pushed then (Ok c.in_ok-settled.settled)
    (c.in_ok-settled.ensures.comes root from now there refl contents here) in
    let left = c.jump.ensures.comes root from then (subst (λ i. IsPrefix i root) (sym after) there) refl closed in
    subst (λ (ns : List Node). ComesTo {E = AllocError} c.args.forward.now.instance c.args.walk.now.level root from ns c.jump.new.forward.pushed then (Ok c.in_ok-settled.settled)) (sym c.remember.ensures.nodes)
    (comes-as {E = AllocError} c.close_by_row.new.forward.instance c.args.forward.now.instance (after ∙ at) c.close_by_row.new.walk.level c.args.walk.now.level (c.close_by_row.ensures.level ∙ c.try_next.ensures.level) root from c.jump.new.walk.nodes.items c.jump.new.forward.pushed then (Ok c.in_ok-settled.settled) left)

pub returns-clause-lighter : goal.returns-clause-lighter
returns-clause-lighter g c =
    let first : work_left c.try_next.new.fuel c.try_next.new.walk.nodes.items ≤ work_left c.args.fuel.now c.args.walk.now.nodes.items = subst (λ o. Lightens {E = AllocError} (work_left c.args.fuel.now c.args.walk.now.nodes.items) (work_left c.try_next.new.fuel c.try_next.new.walk.nodes.items) (Ok o)) c.in-Some.is c.in_ok-found.ensures.lighter in
    let same : work_left c.try_next.new.fuel c.remember.new.walk.nodes.items ≡ work_left c.try_next.new.fuel c.jump.new.walk.nodes.items = ap (λ (ns : List Node). work_left c.try_next.new.fuel ns) c.remember.ensures.nodes in
    omega (arith, first, same, c.close_by_row.ensures.lighter c.try_next.new.fuel, c.jump.ensures.lighter c.try_next.new.fuel)
