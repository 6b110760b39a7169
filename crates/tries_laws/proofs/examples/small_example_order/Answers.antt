use Rattle.std.proofs.Common.{refl}
use Rattle.fapp_model.specs.search.WorkOrder.{work_order}
use Rattle.tries_laws.specs.ExampleInstances.{small_example}
use Rattle.tries_laws.proofs.examples.small_example_order.Goals as goal

pub returns : goal.returns
unfolding work_order small_example
returns c = refl
