use Rattle.tries_laws.proofs.FreePaths.{free-tries}
use Rattle.tries_laws.proofs.examples.free_tries.Goals as goal

pub returns : goal.returns
returns c = free-tries
