use Rattle.std.proofs.Common.{◌≡◌, None, length}
use Rattle.check_parallel.specs.Slices.{edge, fault_between}
use Rattle.check_parallel.proofs.rounds.slice_fault.Given as goal

-- no fault so far
abbrev pub invariant-loop-n : goal.invariant-loop-n
invariant-loop-n l = fault_between l.instance l.answer.lines (edge (length l.answer.lines) l.from l.slice) l.n ≡ None
