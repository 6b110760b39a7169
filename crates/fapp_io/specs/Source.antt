-- What a call of `read` does.
use Rattle.std.specs.Prelude.{◌≡◌, ◌↔◌, ◌≤◌, ℕ, List, [], length, take, Option, Result, Ok, Err, IfSome}
use Rattle.fapp_io.specs.declared.source.Failed.{Failed}
use Rattle.fapp_io.specs.Counts.{Rose}
use Rattle.fapp_io.specs.Known.{Stays, Drops}
use Rattle.fapp_io.specs.Moments.{SourceMoment}

-- the first n bytes of the room are the next n that were left, and there are none exactly where
-- none was left
abbrev pub GivesBytes : Option (List ℕ) → List ℕ → ℕ → Type 0
GivesBytes left room n =
    IfSome left (λ bytes. (take n room ≡ take n bytes) × ((n ≡ 0) ↔ (bytes ≡ [])))

-- `Ok n` took the next n bytes that were left and put them into the room; `Err` took none, and the
-- count of faults rose
abbrev pub ReadsBytes : SourceMoment → SourceMoment → List ℕ → Result ℕ Failed → Type 0
ReadsBytes old new room (Ok n) =
    (n ≤ length room) × GivesBytes old.left room n × Drops old.left new.left n
    × (old.faults ≤ new.faults)
ReadsBytes old new room (Err _) =
    Stays old.left new.left × Rose old.faults new.faults × (old.faults ≤ new.faults)
