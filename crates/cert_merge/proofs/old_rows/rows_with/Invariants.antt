use Rattle.std.proofs.Common.{◌≡◌, take, replicate}
use Rattle.merge_laws.specs.Stages.{with_placed}
use Rattle.cert_merge.proofs.old_rows.rows_with.Given as goal

abbrev pub invariant-loop-place : goal.invariant-loop-place
invariant-loop-place l = l.rows.items ≡ with_placed (take l.place-index l.placed) (replicate l.fn.count 0)
