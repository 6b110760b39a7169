use Rattle.after_rows.proofs.Saying.{AreSaidTo}
use Rattle.after_rows.proofs.tests.placing.rows_of.Given as goal

abbrev pub invariant-loop-number : goal.invariant-loop-number
invariant-loop-number l = AreSaidTo l.old l.numbers l.number-index l.rows.items
