-- The slices that a round is cut into.
use Rattle.std.specs.Prelude.{ℕ, ◌+◌, ◌-◌, ◌*◌, List, Option, length, min}
use Rattle.std.specs.List.{range_with_len}
use Rattle.fapp_model.specs.declared.instance.Instance.{Instance}
use Rattle.cert_lines.specs.declared.answer.Line.{Line}
use Rattle.cert_lines.specs.declared.reject.Rejected.{Rejected}
use Rattle.cert_lines.specs.acceptance.LineFaults.{fault_at, first_of}
use Rattle.check_parallel.specs.declared.rounds.TheConstants.{SLICE}

-- how many of the lines stand before a slice of the round that begins behind so many
abbrev pub edge : ℕ → ℕ → ℕ → ℕ
edge count from slice = min count (from + SLICE * slice)

-- the first fault of the lines behind so many and up to so many
abbrev pub fault_between : Instance → List Line → ℕ → ℕ → Option Rejected
fault_between instance lines from to =
    first_of (fault_at instance lines) (range_with_len from (to - from))

-- the first fault of a slice
abbrev pub slice_fault : Instance → List Line → ℕ → ℕ → Option Rejected
slice_fault instance lines from slice =
    fault_between instance lines (edge (length lines) from slice)
    (edge (length lines) from (slice + 1))
