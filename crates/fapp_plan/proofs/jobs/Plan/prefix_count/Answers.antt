use Rattle.std.proofs.Common.{arith}
use Rattle.tries_laws.proofs.JobParts.{prefixes-few}
use Rattle.fapp_plan.proofs.Rules.{some-prefix}
use Rattle.fapp_plan.proofs.jobs.Plan.prefix_count.Goals as goal

pub returns-clause-some : goal.returns-clause-some
returns-clause-some c =
    omega (arith, c.self.invariant.count, some-prefix c.self.inside.instance.now c.self.inside.split c.self.invariant.valid)

pub returns-clause-few : goal.returns-clause-few
returns-clause-few c =
    omega (arith, c.self.invariant.count, c.self.invariant.few, prefixes-few c.self.inside.instance.now c.self.inside.split c.self.invariant.some)
