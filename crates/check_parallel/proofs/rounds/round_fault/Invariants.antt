use Rattle.std.proofs.Common.{◌≡◌, None, length}
use Rattle.check_parallel.specs.Slices.{edge, fault_between}
use Rattle.check_parallel.proofs.rounds.round_fault.Given as goal

-- no fault so far
abbrev pub invariant-loop-k : goal.invariant-loop-k
invariant-loop-k g l = fault_between l.instance l.answer.lines l.from (edge (length l.answer.lines) l.from l.k) ≡ None
