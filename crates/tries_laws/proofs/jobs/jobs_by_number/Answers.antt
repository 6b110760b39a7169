use Rattle.tries_laws.proofs.JobParts.{job-is, job-below, job-level, job-number, job-prefix}
use Rattle.tries_laws.proofs.jobs.jobs_by_number.Goals as goal

pub returns : goal.returns
returns c = record { is = job-is; below = job-below; number = job-number; level = job-level; prefix = job-prefix }
