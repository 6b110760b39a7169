use Rattle.std.proofs.Common.{take}
use Rattle.row_copies.specs.Filed.{IsBucketFor}
use Rattle.row_copies.proofs.copies.bucket_for.Given as goal

-- the bucket of one of the literals so far
abbrev pub invariant-loop-lit : goal.invariant-loop-lit
invariant-loop-lit l = IsBucketFor l.buckets (take l.lit-index l.lits) l.best
