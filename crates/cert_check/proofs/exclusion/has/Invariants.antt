use Rattle.std.proofs.Common.{◌≡◌, false, take}
use Rattle.cert_lines.specs.acceptance.Contained.{has}
use Rattle.cert_check.proofs.exclusion.has.Given as goal

-- none of the literals so far
abbrev pub invariant-loop-b : goal.invariant-loop-b
invariant-loop-b l = has (take l.b-index l.literals) l.a ≡ false
