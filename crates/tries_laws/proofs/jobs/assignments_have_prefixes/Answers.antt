use Rattle.tries_laws.proofs.PlanPrefixes.{plan-prefix, one-prefix}
use Rattle.tries_laws.proofs.jobs.assignments_have_prefixes.Goals as goal

pub returns : goal.returns
returns c = record { some = plan-prefix; one = one-prefix }
