use Rattle.std.proofs.Common.{set, sym, subst}
use Rattle.std.specs.Option.{IfSome}
use Rattle.fapp_model.specs.Instances.{IsInstance}
use Rattle.fapp_workers.specs.Begun.{OffersFirst}
use Rattle.fapp_workers.specs.WorkerPlaces.{IsSeated}
use Rattle.fapp_workers.proofs.Beginning.{all-first, offers-first, seated-begun}
use Rattle.fapp_workers.proofs.start.keep_start.Goals as goal

pub returns-clause-seated : goal.returns-clause-seated
returns-clause-seated c =
    let split = c.args.plan.now in
    let places = c.args.places.items in
    let old = c.index_mut.result.now in
    let new = c.begin.new.place in
    let here : IsSeated split c.args.word.now c.args.pool.now old = subst (IsSeated split c.args.word.now c.args.pool.now) (sym c.index_mut.ensures.value) (c.requires.seated 0 old c.requires.some) in
    let valid = subst IsInstance c.instance-valid.ensures.value c.instance-valid.ensures.valid in
    all-first (IsSeated split c.args.word.now c.args.pool.now) places new c.requires.some
    (seated-begun split c.args.word.now c.args.pool.now c.in-Some.start.now old new valid (c.requires.feasible c.in-Some.start c.in-Some.is) here c.in_ok-begin.ensures) c.requires.seated

pub returns-clause-started : goal.returns-clause-started
returns-clause-started c =
    let instance = c.args.plan.now.instance in
    subst (λ o. IfSome o (λ s. OffersFirst instance s.now (set c.args.places.items 0 c.begin.new.place))) (sym c.in-Some.is)
    (offers-first instance c.args.word.now c.in-Some.start.now c.args.places.items c.index_mut.result.now c.begin.new.place c.requires.some c.in_ok-begin.ensures)
