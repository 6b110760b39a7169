use Rattle.std.proofs.Common.{refl}
use Rattle.fapp_model.specs.Levels.{levels_of}
use Rattle.fapp_model.specs.search.Jobs.{depth}
use Rattle.fapp_model.specs.search.WorkOrder.{work_order}
use Rattle.tries_laws.specs.ExampleInstances.{two_paths}
use Rattle.tries_laws.proofs.TwoPaths.{two_paths-tries}
use Rattle.tries_laws.proofs.examples.two_paths_tries.Goals as goal

pub returns : goal.returns
unfolding depth work_order two_paths levels_of
returns c = record { depth = refl; prefix = refl; level = refl; tries = two_paths-tries }
