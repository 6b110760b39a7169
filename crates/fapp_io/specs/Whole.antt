-- What the calls that read and write the whole do.
use Rattle.std.specs.Prelude.{◌≡◌, ◌<◌, ◌≤◌, ◌+◌, ℕ, List, [], length, take, Option, Result, Some, Ok, Err, IfSome, ⊤}
use Rattle.std.specs.Global.{Vec}
use Rattle.fapp_io.specs.declared.whole.ReadEnd.{ReadEnd}
use Rattle.fapp_io.specs.declared.whole.ReadEnd.TheVariants.{ReadFault, TooLong, NoMemory}
use Rattle.fapp_io.specs.declared.whole.WriteEnd.{WriteEnd}
use Rattle.fapp_io.specs.declared.whole.WriteEnd.TheVariants.{WriteFault}
use Rattle.fapp_io.specs.Counts.{Rose}
use Rattle.fapp_io.specs.Known.{Drops, BytesGrow}
use Rattle.fapp_io.specs.Moments.{SourceMoment, SinkMoment}

-- these bytes are all that was left, and none is left after
abbrev pub IsAllOf : Option (List ℕ) → Option (List ℕ) → List ℕ → Type 0
IsAllOf left left_after given = IfSome left (λ bytes. (given ≡ bytes) × (left_after ≡ Some []))

-- some first bytes are gone, and no more than that many
abbrev pub DropsUpTo : Option (List ℕ) → Option (List ℕ) → ℕ → Type 0
DropsUpTo left left_after most = (n : ℕ) × (n ≤ most) × Drops left left_after n

-- a front of the piece came to the end, short of the whole
abbrev pub GrowsByFront : Option (List ℕ) → Option (List ℕ) → List ℕ → Type 0
GrowsByFront taken taken_after piece =
    (n : ℕ) × (n < length piece) × BytesGrow taken taken_after (take n piece)

-- `Ok` gives all that was left, at most the limit; `TooLong` took one byte more than the limit, and
-- the others no more than the limit
abbrev pub ReadsAll : SourceMoment → SourceMoment → ℕ → Result (Vec ℕ) ReadEnd → Type 0
ReadsAll old new limit (Ok given) =
    (length given.items ≤ limit) × IsAllOf old.left new.left given.items × (old.faults ≤ new.faults)
ReadsAll old new limit (Err ReadFault) =
    DropsUpTo old.left new.left limit × Rose old.faults new.faults × (old.faults ≤ new.faults)
ReadsAll old new limit (Err TooLong) =
    Drops old.left new.left (limit + 1) × (old.faults ≤ new.faults)
ReadsAll old new limit (Err NoMemory) =
    DropsUpTo old.left new.left limit × (old.faults ≤ new.faults)

-- `Ok` appended the piece and no more, an empty one by no call; after a fault a front of it was
-- appended, and the count of faults rose
abbrev pub WritesAll : SinkMoment → SinkMoment → List ℕ → Result ⊤ WriteEnd → Type 0
WritesAll old new piece (Ok _) =
    BytesGrow old.taken new.taken piece × (old.faults ≤ new.faults) × (piece ≡ [] → new ≡ old)
WritesAll old new piece (Err WriteFault) =
    GrowsByFront old.taken new.taken piece × Rose old.faults new.faults × (old.faults ≤ new.faults)
