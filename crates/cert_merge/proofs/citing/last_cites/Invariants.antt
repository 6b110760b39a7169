use Rattle.cert_merge.specs.Compacting.{AreLast}
use Rattle.cert_merge.proofs.citing.last_cites.Given as goal

abbrev pub invariant-loop-place : goal.invariant-loop-place
invariant-loop-place l = AreLast l.lines l.place l.last.items
