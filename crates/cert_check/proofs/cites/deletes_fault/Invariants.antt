use Rattle.std.proofs.Common.{◌≡◌, take, None}
use Rattle.cert_lines.specs.acceptance.LineFaults.{delete_fault, first_of}
use Rattle.cert_check.proofs.cites.deletes_fault.Given as goal

-- no fault so far
abbrev pub invariant-loop-number : goal.invariant-loop-number
invariant-loop-number l = first_of (delete_fault (take l.scene.n l.scene.lines.now)) (take l.number-index l.numbers) ≡ None
