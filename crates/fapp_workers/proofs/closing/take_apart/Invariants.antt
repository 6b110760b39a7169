use Rattle.std.proofs.Common.{◌≡◌, map}
use Rattle.fapp_workers.specs.Closings.{kept_by, kept_of}
use Rattle.fapp_workers.specs.WorkerPlaces.{hands_of, pool_seats_of, seats_of}
use Rattle.fapp_workers.proofs.closing.take_apart.Given as goal

-- the places so far are taken apart
abbrev pub invariant-loop-place : goal.invariant-loop-place
invariant-loop-place l = record {
  hands : l.hands.items ≡ hands_of l.yielded;
  seats : l.seats.items ≡ seats_of l.yielded;
  pool_seats : l.pool_seats.items ≡ pool_seats_of l.yielded;
  works : map kept_by l.works.items ≡ map kept_of l.yielded;
}
