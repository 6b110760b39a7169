-- What the calls of a log do.
use Rattle.std.specs.Prelude.{◌≡◌, ◌⊎◌, ℕ, ◌-◌, max, List, [], ◌∷◌, ◌++◌, length, take, Option, Some, None}
use Rattle.fapp_model.specs.declared.triple.Triple.{Triple}
use Rattle.fapp_model.specs.Triples.{IsBelow}
use Rattle.search_log.specs.declared.line.LogLine.{LogLine}
use Rattle.search_log.specs.Segments.{ended}
use Rattle.search_log.specs.declared.log.KeptPlan.{KeptPlan}
use Rattle.search_log.specs.LogStates.{LogState}

abbrev pub empty_log : LogState
empty_log = record { lines = []; segments = []; best = None }

abbrev pub log_with_line : LogState → LogLine → LogState
log_with_line log line =
    record { lines = log.lines ++ line ∷ []; segments = log.segments; best = log.best }

-- a segment more, which ends with the last line
abbrev pub with_segment : LogState → ℕ → LogState
with_segment log row = record {
  lines = log.lines;
  segments = log.segments ++ record { last = length log.lines - 1; row = row } ∷ [];
  best = log.best;
}

-- without the lines from a place on, but with all up to the end of the last segment
abbrev pub cut_behind : LogState → ℕ → LogState
cut_behind log from =
    record {
      lines = take (max from (ended log.segments)) log.lines;
      segments = log.segments;
      best = log.best;
    }

-- nothing was kept, or what was kept costs more
abbrev pub IsBetter : Triple → Option KeptPlan → Type 0
IsBetter triple None = Unit {0}
IsBetter triple (Some best) = IsBelow triple best.cost

abbrev pub with_best : LogState → Triple → List ℕ → LogState
with_best log triple plan =
    record {
      lines = log.lines;
      segments = log.segments;
      best = Some (record { cost = triple; plan = plan });
    }

-- a better assignment takes the place of the kept one, and no other does
abbrev pub KeepsBest : LogState → Triple → List ℕ → LogState → Type 0
KeepsBest old triple plan new =
    (IsBetter triple old.best × (new ≡ with_best old triple plan))
    ⊎ ((IsBetter triple old.best → ⊥) × (new ≡ old))
