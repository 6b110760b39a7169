use Rattle.dead_laws.proofs.ExamplesValid.{examples-valid}
use Rattle.dead_laws.proofs.examples.examples_are_valid.Goals as goal

pub returns : goal.returns
returns c = examples-valid
