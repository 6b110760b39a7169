use Rattle.std.proofs.Common.{◌≡◌, None}
use Rattle.std.specs.List.{range_with_len}
use Rattle.cert_lines.specs.acceptance.LineFaults.{fault_at, first_of}
use Rattle.cert_check.proofs.acceptance.lines_fault.Given as goal

-- no fault so far
abbrev pub invariant-loop-n : goal.invariant-loop-n
invariant-loop-n l = first_of (fault_at l.instance l.answer.lines) (range_with_len 0 l.n) ≡ None
