use Rattle.nogood_pool.proofs.Closing.{stays}
use Rattle.nogood_pool.proofs.laws.rows_stay.Goals as goal

pub returns : goal.returns
returns c = stays
