use Rattle.std.proofs.Common.{ℕ, ◌+◌, ◌-◌, ◌≤◌, List, length, vec_len}
use Rattle.std.specs.Io.KnownBytes.{Consumes}
use Rattle.fapp_io.specs.Moments.{SourceMoment}
use Rattle.fapp_io.proofs.whole.read_all.Given as goal

-- what was given so far is within the limit, and what is left follows it
pub record IsSoFar (old new : SourceMoment) (given : List ℕ) (limit : ℕ) : Type 0 where
  pub within : length given ≤ limit
  pub given_first : Consumes old.left new.left given
  pub no_fewer : old.faults ≤ new.faults

abbrev pub invariant-pieces : goal.invariant-pieces
invariant-pieces g l = IsSoFar (g.S.Source.moment l.initial.source) (g.S.Source.moment l.source) l.bytes.items l.limit

abbrev pub decreases-pieces : goal.decreases-pieces
decreases-pieces g l = l.limit + 1 - vec_len l.bytes
