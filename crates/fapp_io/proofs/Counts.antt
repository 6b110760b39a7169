-- A count that rose has risen since any moment before.
use Rattle.std.proofs.Common.{ℕ, ◌≤◌, inl, inr, arith}
use Rattle.fapp_io.specs.Counts.{Rose}

pub rose_since : (before old new : ℕ) → before ≤ old → Rose old new → Rose before new
rose_since before old new later (inl rose) = inl (omega arith)
rose_since before old new later (inr stands) = inr stands
