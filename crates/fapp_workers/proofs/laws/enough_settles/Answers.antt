use Rattle.fapp_workers.proofs.OpenVerdicts.{enough}
use Rattle.fapp_workers.proofs.laws.enough_settles.Goals as goal

pub returns : goal.returns
returns c split fuel rows logs word arcs outcomes best lower level prefix h s = enough split fuel rows logs word arcs outcomes best lower level prefix s h
