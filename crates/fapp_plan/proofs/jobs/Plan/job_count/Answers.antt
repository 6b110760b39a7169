use Rattle.std.proofs.Common.{◌≤◌, arith, ◌+◌, ◌*◌}
use Rattle.std.proofs.lemmas.Nat.{mul-le}
use Rattle.tries_laws.proofs.JobParts.{prefixes-few}
use Rattle.fapp_plan.proofs.Rules.{some-prefix}
use Rattle.fapp_plan.proofs.jobs.Plan.job_count.Goals as goal

pub overflow_mul-result : goal.overflow_mul-result
overflow_mul-result c =
    let few : c.self.inside.prefixes ≤ 4096 =
    omega (arith, c.self.invariant.count, c.self.invariant.few, prefixes-few c.self.inside.instance.now c.self.inside.split c.self.invariant.some) in
    let most = mul-le (c.levels.result + 1) c.self.inside.prefixes 12 4096 (omega (arith, c.levels.ensures.few)) few in
    omega arith

pub returns-clause-few : goal.returns-clause-few
returns-clause-few c =
    let few : c.self.inside.prefixes ≤ 4096 =
    omega (arith, c.self.invariant.count, c.self.invariant.few, prefixes-few c.self.inside.instance.now c.self.inside.split c.self.invariant.some) in
    let most = mul-le (c.levels.result + 1) c.self.inside.prefixes 12 4096 (omega (arith, c.levels.ensures.few)) few in
    omega arith

pub returns-clause-some : goal.returns-clause-some
returns-clause-some c =
    let some = some-prefix c.self.inside.instance.now c.self.inside.split c.self.invariant.valid in
    let least = mul-le 1 1 (c.levels.result + 1) c.self.inside.prefixes (omega arith) (omega (arith, some, c.self.invariant.count)) in
    omega (arith, least)
