use Rattle.std.proofs.Common.{◌-◌, arith}
use Rattle.fapp_workers.proofs.Working.{job-prefix-is}
use Rattle.fapp_workers.proofs.Deciding.{if-err, lacking-by, searched-by}
use Rattle.fapp_workers.proofs.job.search.Goals as goal

pub settle-requires-clause-prefix : goal.settle-requires-clause-prefix
settle-requires-clause-prefix g c = rw (← c.requires.plan, c.requires.job.1) (job-prefix-is c.args.plan.now c.args.id c.requires.id)

pub returns-clause-searched : goal.returns-clause-searched
returns-clause-searched g c =
    searched-by c.args.plan.now c.args.amount c.args.id c.new-fuel.result c.settle.new.fuel (c.args.amount - c.left.result) c.args.forward.now.instance c.args.job.now.level c.args.job.now.prefix
    (g.B.Bound.state c.args.bound.now) (g.B.Bound.state c.settle.new.bound) (g.H.Shared.state c.args.shared.now) (g.H.Shared.state c.settle.new.shared) c.args.log.now c.settle.new.log c.in_ok-outcome.outcome
    c.requires.plan c.requires.job.0 c.requires.job.1 c.new-fuel.ensures (omega (arith, c.left.ensures)) c.in_ok-outcome.ensures.settles

pub returns-in_err-outcome-clause-lack : goal.returns-in_err-outcome-clause-lack
returns-in_err-outcome-clause-lack g c = if-err _ _
    (lacking-by c.args.plan.now c.args.amount c.args.id c.new-fuel.result c.settle.new.fuel c.args.forward.now.instance c.args.job.now.level c.args.job.now.prefix
    (g.B.Bound.state c.args.bound.now) (g.B.Bound.state c.settle.new.bound) (g.H.Shared.state c.args.shared.now) (g.H.Shared.state c.settle.new.shared) c.args.log.now c.settle.new.log c.in_err-outcome.field-0.0
    c.requires.plan c.requires.job.0 c.requires.job.1 c.new-fuel.ensures c.in_err-outcome.ensures.settles)
