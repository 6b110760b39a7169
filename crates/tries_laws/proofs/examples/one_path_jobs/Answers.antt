use Rattle.std.proofs.Common.{refl}
use Rattle.fapp_model.specs.Levels.{levels_of}
use Rattle.fapp_model.specs.search.Jobs.{depth}
use Rattle.fapp_model.specs.search.WorkOrder.{work_order}
use Rattle.tries_laws.specs.ExampleInstances.{one_path}
use Rattle.tries_laws.proofs.examples.one_path_jobs.Goals as goal

pub returns : goal.returns
unfolding depth work_order one_path levels_of
returns c = record { depth = refl; prefix = refl; jobs = refl }
