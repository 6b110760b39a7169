-- A source and a sink in memory, as their callers see them.
use Rattle.std.specs.Prelude.{◌≡◌, ◌⊎◌, ◌-◌, ◌++◌, ℕ, min, true, false, List, length, take, Some, Result, Ok, Err}
use Rattle.fapp_io.specs.declared.source.Failed.{Failed}
use Rattle.fapp_io.specs.Calls.{fails_next}
use Rattle.fapp_io.specs.Counts.{next_count}
use Rattle.fapp_io.specs.Moments.{SourceMoment, SinkMoment}
use Rattle.fapp_io.specs.Supply.{Supply, FedBy}

-- what a source gives from, which of its calls fail, how many there were, and how many of them
-- failed
pub record MemSourceView : Type 0 where
  pub supply : Supply
  pub fails : List ℕ
  pub calls : ℕ
  pub faults : ℕ

-- the bytes that a sink took, how many it has room for in all, how many it takes at once, which of
-- its calls fail, how many there were, and how many of them failed
pub record MemSinkView : Type 0 where
  pub taken : List ℕ
  pub room : ℕ
  pub most : ℕ
  pub fails : List ℕ
  pub calls : ℕ
  pub faults : ℕ

-- it tells the bytes that it has left
abbrev pub source_moment : MemSourceView → SourceMoment
source_moment source = record { left = Some source.supply.left; faults = source.faults }

-- it tells the bytes that it took
abbrev pub sink_moment : MemSinkView → SinkMoment
sink_moment sink = record { taken = Some sink.taken; faults = sink.faults }

-- how many bytes more it has room for
abbrev pub room_left : MemSinkView → ℕ
room_left sink = sink.room - length sink.taken

-- A call whose number is in the list fails, and changes nothing but the counts. Each other gives
-- the next bytes.
abbrev pub ReadsByNumber : MemSourceView → MemSourceView → List ℕ → Result ℕ Failed → Type 0
ReadsByNumber old new room (Ok n) =
    (fails_next old.fails old.calls ≡ false) × FedBy old.supply new.supply room n
    × (new ≡ record old { supply = new.supply; calls = next_count old.calls })
ReadsByNumber old new room (Err _) =
    (fails_next old.fails old.calls ≡ true)
    × (new ≡ record old { calls = next_count old.calls; faults = next_count old.faults })

-- A call whose number is in the list fails, and so does one that finds no room; it changes nothing
-- but the counts. Each other appends as many bytes as it may take at once, the piece has, and there
-- is room for.
abbrev pub WritesByNumber : MemSinkView → MemSinkView → List ℕ → Result ℕ Failed → Type 0
WritesByNumber old new piece (Ok n) =
    (fails_next old.fails old.calls ≡ false)
    × (n ≡ min (min old.most (length piece)) (room_left old))
    × (new ≡ record old { taken = old.taken ++ take n piece; calls = next_count old.calls })
WritesByNumber old new piece (Err _) =
    ((fails_next old.fails old.calls ≡ true) ⊎ (room_left old ≡ 0))
    × (new ≡ record old { calls = next_count old.calls; faults = next_count old.faults })
