use Rattle.after_rows.proofs.Saying.{ArePairedTo}
use Rattle.after_rows.proofs.tests.placing.paired.Given as goal

abbrev pub invariant-loop-place : goal.invariant-loop-place
invariant-loop-place l = ArePairedTo l.numbers l.place l.pairs.items
