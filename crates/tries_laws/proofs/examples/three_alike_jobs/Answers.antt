use Rattle.std.proofs.Common.{refl}
use Rattle.fapp_model.specs.Levels.{levels_of}
use Rattle.fapp_model.specs.search.Jobs.{depth}
use Rattle.fapp_model.specs.search.WorkOrder.{work_order}
use Rattle.dead_laws.specs.ExampleInstances.{three_alike}
use Rattle.tries_laws.proofs.examples.three_alike_jobs.Goals as goal

pub returns : goal.returns
unfolding depth work_order three_alike levels_of
returns c = record { depth = refl; jobs = refl; level = refl; prefix = refl }
