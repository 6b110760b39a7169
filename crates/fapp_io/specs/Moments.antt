-- What a source and a sink show at a moment.
use Rattle.std.specs.Prelude.{ℕ, List, Option, Some, None}

-- the bytes that a source has left, where it tells them, and how often it has failed
pub record SourceMoment : Type 0 where
  pub left : Option (List ℕ)
  pub faults : ℕ

-- the bytes that a sink took, where it tells them, and how often it has failed
pub record SinkMoment : Type 0 where
  pub taken : Option (List ℕ)
  pub faults : ℕ

-- a source that tells what it has left and never failed
abbrev pub clean_source : List ℕ → SourceMoment
clean_source left = record { left = Some left; faults = 0 }

-- a sink that tells nothing and never failed
abbrev pub clean_sink : SinkMoment
clean_sink = record { taken = None; faults = 0 }
