use Rattle.cert_merge.proofs.EndedRows.{AreFilled}
use Rattle.cert_merge.proofs.citing.ended_rows.Given as goal

abbrev pub invariant-loop-place : goal.invariant-loop-place
invariant-loop-place l = AreFilled l.lines l.place l.rows.items
