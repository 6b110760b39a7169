use Rattle.tries_laws.proofs.FreePaths.{most_paths}
use Rattle.tries_laws.proofs.examples.most_paths_tries.Goals as goal

pub returns : goal.returns
returns c = most_paths
