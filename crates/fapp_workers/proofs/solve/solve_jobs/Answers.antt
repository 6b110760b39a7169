use Rattle.fapp_workers.proofs.Gathering.{gathered-alone}
use Rattle.fapp_workers.proofs.solve.solve_jobs.Goals as goal

pub returns-clause-gathered : goal.returns-clause-gathered
returns-clause-gathered g c = gathered-alone c.args.plan.now c.args.settings.now.fuel c.in_ok-gathered.gathered c.in_ok-gathered.ensures.gathered
