use Rattle.std.proofs.Common.{◌≡◌, ℕ, ◌<◌, Some, None}
use Rattle.nogood.specs.Partials.{choice_given}
use Rattle.row_copies.specs.Filed.{IsFoundIn, bucket}
use Rattle.row_copies.proofs.copies.Copies.find.Given as goal

-- the buckets of the paths that were gone through have no row that fits
abbrev pub invariant-loop-path : goal.invariant-loop-path
invariant-loop-path l = (p choice : ℕ) → p < l.path → choice_given l.part p ≡ Some choice → IsFoundIn l.cites l.filed (bucket l.buckets p choice) l.part l.target.code None
