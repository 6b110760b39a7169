use Rattle.search_log.proofs.Examples.{example-log}
use Rattle.search_log.proofs.laws.example_log.Goals as goal

pub returns : goal.returns
returns c = example-log
