use Rattle.std.proofs.Common.{◌≡◌, ap, subst, ◌∙◌, arith}
use Rattle.choice_counts.specs.ForwardStates.{ForwardState, at_level, with_literals}
use Rattle.fapp_model.specs.Instances.{IsInstance}
use Rattle.settle_laws.specs.Lined.{Lined}
use Rattle.settle_laws.specs.Worlds.{world}
use Rattle.settle_laws.proofs.Settling.{nothing-settles}
use Rattle.subtree_search.proofs.Closing.{settles-err}
use Rattle.subtree_search.proofs.job.settle.Goals as goal

pub returns-in_err-walk-clause-settles : goal.returns-in_err-walk-clause-settles
returns-in_err-walk-clause-settles g c = settles-err c.args.forward.now.instance c.args.job.now.level c.args.job.now.prefix (world c.args.fuel.now (g.B.Bound.state c.args.bound.now) (g.H.Shared.state c.args.shared.now) c.args.log.now) (world c.args.fuel.now (g.B.Bound.state c.args.bound.now) (g.H.Shared.state c.args.shared.now) c.args.log.now) c.from_residual.result c.from_residual.ensures.0 (nothing-settles c.args.forward.now.instance c.args.job.now.level c.args.job.now.prefix (world c.args.fuel.now (g.B.Bound.state c.args.bound.now) (g.H.Shared.state c.args.shared.now) c.args.log.now))

pub returns-clause-settles : goal.returns-clause-settles
returns-clause-settles g c =
    let f = c.args.forward.now in
    let pushed : c.push_all.new.forward ≡ with_literals (at_level f c.args.job.now.level) c.args.job.now.prefix = c.push_all.ensures ∙ (ap (λ s. with_literals s c.as_slice.result.now) c.keep_level.ensures ∙ ap (λ lits. with_literals (at_level f c.args.job.now.level) lits) c.as_slice.ensures) in
    let lined : Lined f.instance c.in_ok-walk.walk.level c.args.job.now.prefix (world c.args.fuel.now (g.B.Bound.state c.args.bound.now) (g.H.Shared.state c.args.shared.now) c.args.log.now) (world c.search_prefix-found.new.fuel (g.B.Bound.state c.search_prefix-found.new.bound) (g.H.Shared.state c.search_prefix-found.new.shared) c.search_prefix-found.new.log) c.search_prefix-found.result = subst (λ (s : ForwardState). Lined s.instance c.in_ok-walk.walk.level s.pushed (world c.args.fuel.now (g.B.Bound.state c.args.bound.now) (g.H.Shared.state c.args.shared.now) c.args.log.now) (world c.search_prefix-found.new.fuel (g.B.Bound.state c.search_prefix-found.new.bound) (g.H.Shared.state c.search_prefix-found.new.shared) c.search_prefix-found.new.log) c.search_prefix-found.result) pushed c.search_prefix-found.ensures.lined in
    c.finish-outcome.ensures.settled f.instance c.args.job.now.level c.args.job.now.prefix (world c.args.fuel.now (g.B.Bound.state c.args.bound.now) (g.H.Shared.state c.args.shared.now) c.args.log.now) c.search_prefix-found.new.fuel (g.B.Bound.state c.search_prefix-found.new.bound) (record {
      valid = subst IsInstance (c.instance.ensures.value ∙ c.tables.ensures) c.instance.ensures.valid;
      within = c.requires.level;
      prefix = c.requires.prefix;
      from_is = c.len-from.ensures.count;
      behind = omega (arith, c.len-from.ensures.ended, c.len-from.ensures.count);
      lined = subst (λ l. Lined f.instance l c.args.job.now.prefix (world c.args.fuel.now (g.B.Bound.state c.args.bound.now) (g.H.Shared.state c.args.shared.now) c.args.log.now) (world c.search_prefix-found.new.fuel (g.B.Bound.state c.search_prefix-found.new.bound) (g.H.Shared.state c.search_prefix-found.new.shared) c.search_prefix-found.new.log) c.search_prefix-found.result) c.in_ok-walk.ensures.0 lined;
    })
