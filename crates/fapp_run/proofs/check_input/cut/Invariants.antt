use Rattle.std.proofs.Common.{length}
use Rattle.fapp_run.proofs.CutLemmas.{IsAt}
use Rattle.fapp_run.proofs.check_input.cut.Given as goal

abbrev pub invariant-loop-rest : goal.invariant-loop-rest
invariant-loop-rest l = IsAt l.bytes l.rest l.divider

abbrev pub decreases-loop-rest : goal.decreases-loop-rest
decreases-loop-rest l = length l.rest
