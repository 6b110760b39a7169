-- The ends of slices.
use Rattle.std.proofs.Common.{◌≡◌, ℕ, ◌≤◌, arith}
use Rattle.check_parallel.specs.Slices.{edge}

pub edge-within : (count from slice : ℕ) → edge count from slice ≤ count
edge-within count from slice = omega arith

pub edge-first : (count from : ℕ) → from ≤ count → edge count from 0 ≡ from
edge-first count from low = omega arith

pub edge-rises : (count from k j : ℕ) → k ≤ j → edge count from k ≤ edge count from j
edge-rises count from k j low = omega arith
