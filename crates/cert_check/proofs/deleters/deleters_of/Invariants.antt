use Rattle.cert_check.proofs.Notes.{AreNotedFrom}
use Rattle.cert_check.proofs.deleters.deleters_of.Given as goal

-- the lines from a position on
abbrev pub invariant-loop-done : goal.invariant-loop-done
invariant-loop-done l = AreNotedFrom l.lines l.table.items l.done
