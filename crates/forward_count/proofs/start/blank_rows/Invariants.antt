use Rattle.forward_count.specs.Starts.{AreShaped}
use Rattle.forward_count.proofs.start.blank_rows.Given as goal

abbrev pub invariant-loop-path : goal.invariant-loop-path
invariant-loop-path l = AreShaped l.instance l.rows.items l.path
