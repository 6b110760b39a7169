-- What a call of `write` does.
use Rattle.std.specs.Prelude.{◌≤◌, ℕ, List, length, take, Result, Ok, Err}
use Rattle.fapp_io.specs.declared.source.Failed.{Failed}
use Rattle.fapp_io.specs.Counts.{Rose}
use Rattle.fapp_io.specs.Known.{Stays, BytesGrow}
use Rattle.fapp_io.specs.Moments.{SinkMoment}

-- `Ok n` took the first n bytes of the piece, at least one; `Err` took none, and the count of
-- faults rose
abbrev pub Writes : SinkMoment → SinkMoment → List ℕ → Result ℕ Failed → Type 0
Writes old new piece (Ok n) =
    (1 ≤ n) × (n ≤ length piece) × BytesGrow old.taken new.taken (take n piece)
    × (old.faults ≤ new.faults)
Writes old new piece (Err _) =
    Stays old.taken new.taken × Rose old.faults new.faults × (old.faults ≤ new.faults)
