use Rattle.tries_laws.proofs.JobParts.{depth-is, depth-greatest}
use Rattle.tries_laws.proofs.jobs.depth_is_greatest.Goals as goal

pub returns : goal.returns
returns c = record { is = depth-is; greatest = depth-greatest }
