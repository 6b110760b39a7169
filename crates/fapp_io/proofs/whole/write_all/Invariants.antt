use Rattle.std.proofs.Common.{◌≡◌, ◌≤◌, [], length}
use Rattle.fapp_io.proofs.Known.{IsHalfway}
use Rattle.fapp_io.proofs.whole.write_all.Given as goal

-- a front of the piece was taken, an empty one by no call
abbrev pub invariant-pieces : goal.invariant-pieces
invariant-pieces g l =
    let old = g.K.Sink.moment l.initial.sink in
    let new = g.K.Sink.moment l.sink in record {
      half : IsHalfway old.taken new.taken l.piece l.rest;
      no_fewer : old.faults ≤ new.faults;
      untouched : l.piece ≡ [] → new ≡ old;
    }

abbrev pub decreases-pieces : goal.decreases-pieces
decreases-pieces g l = length l.rest
