use Rattle.dead_laws.proofs.DeadTests.{arcs-of}
use Rattle.dead_laws.proofs.arcs.arcs_are_supported.Goals as goal

pub returns : goal.returns
returns c = λ instance level valid. arcs-of instance level valid
