use Rattle.fapp_workers.proofs.PooledSeats.{closes}
use Rattle.fapp_workers.proofs.laws.pooled_seats_close.Goals as goal

pub returns : goal.returns
returns c = closes
