use Rattle.best_word.specs.Seats.{view_of}
use Rattle.fapp_workers.proofs.Bounds.{low-offers}
use Rattle.fapp_workers.proofs.bound.SharedBound.into_seat.Goals as goal

pub returns-clause-floor : goal.returns-clause-floor
returns-clause-floor c = let b = c.args.self in low-offers (view_of b.seat).least b.told.code (view_of b.seat).offers b.known b.seat.offered
