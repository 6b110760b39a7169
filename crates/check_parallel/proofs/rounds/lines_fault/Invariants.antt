use Rattle.std.proofs.Common.{◌≡◌, ◌-◌, ◌≤◌, None}
use Rattle.check_parallel.specs.Slices.{fault_between}
use Rattle.check_parallel.proofs.rounds.lines_fault.Given as goal

-- no line of the rounds so far has a fault
abbrev pub invariant-loop-from : goal.invariant-loop-from
invariant-loop-from g l = (l.from ≤ l.count) × (fault_between l.instance l.answer.lines 0 l.from ≡ None)

abbrev pub decreases-loop-from : goal.decreases-loop-from
decreases-loop-from g l = l.count - l.from
