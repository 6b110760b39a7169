use Rattle.std.proofs.Common.{◌≡◌, None, Ok, ap, subst}
use Rattle.std.specs.declared.alloc.AllocError.{AllocError}
use Rattle.choice_counts.specs.ForwardStates.{ForwardState}
use Rattle.tries_laws.proofs.PrefixParts.{prefix-is_partial}
use Rattle.settle_laws.specs.Founds.{Searched}
use Rattle.settle_laws.specs.Lines.{IsLined}
use Rattle.settle_laws.specs.Worlds.{world}
use Rattle.settle_laws.proofs.Lining.{dead-lined, lined-by, not-dead}
use Rattle.subtree_search.specs.SearchSteps.{IsBack}
use Rattle.subtree_search.proofs.job.search_prefix.Goals as goal

pub returns-in-Dead-clause-lined : goal.returns-in-Dead-clause-lined
returns-in-Dead-clause-lined g c =
    let f = c.args.forward.now in
    let old = world c.args.fuel.now (g.B.Bound.state c.args.bound.now) (g.H.Shared.state c.args.shared.now) c.args.log.now in
    let now = world c.explore.new.fuel (g.B.Bound.state c.explore.new.bound) (g.H.Shared.state c.explore.new.shared) c.explore.new.log in
    let back : c.explore.new.forward.pushed ≡ f.pushed = subst (λ x. IsBack x f.pushed c.explore.new.forward.pushed) c.in-Dead.is c.in_ok-found.ensures.back in
    dead-lined f.instance c.requires.ready.valid c.args.walk.now.level c.requires.ready.level f.pushed (prefix-is_partial f.instance f.pushed c.requires.prefix) old now c.in-Dead.tag
    (subst (λ x. Searched {E = AllocError} f.instance c.args.walk.now.level f.pushed old now (Ok x)) c.in-Dead.is c.in_ok-found.ensures.searched) c.add_line.new.log c.add_line.result
    (subst (λ refs. IsLined f.instance f.pushed c.in-Dead.tag None refs c.explore.new.log c.add_line.new.log c.add_line.result) c.new.ensures
    (subst (λ lits. IsLined f.instance lits c.in-Dead.tag None c.new.result c.explore.new.log c.add_line.new.log c.add_line.result) back
    (subst (λ i. IsLined i c.explore.new.forward.pushed c.in-Dead.tag None c.new.result c.explore.new.log c.add_line.new.log c.add_line.result) (ap (λ (s : ForwardState). s.instance) c.explore.ensures.front) c.add_line.ensures)))

pub returns-in_default-clause-lined : goal.returns-in_default-clause-lined
returns-in_default-clause-lined g c =
    lined-by c.args.forward.now.instance c.args.walk.now.level c.args.forward.now.pushed
    (world c.args.fuel.now (g.B.Bound.state c.args.bound.now) (g.H.Shared.state c.args.shared.now) c.args.log.now)
    (world c.explore.new.fuel (g.B.Bound.state c.explore.new.bound) (g.H.Shared.state c.explore.new.shared) c.explore.new.log)
    (Ok c.in_ok-found.found) (not-dead AllocError c.in_ok-found.found c.in_default.not-Dead) c.in_ok-found.ensures.searched
