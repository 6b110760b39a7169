use Rattle.std.proofs.Common.{take}
use Rattle.cert_check.specs.Noted.{AreNoted}
use Rattle.cert_check.proofs.deleters.note.Given as goal

-- the numbers so far
abbrev pub invariant-loop-number : goal.invariant-loop-number
invariant-loop-number l = AreNoted l.fn.table l.table (take l.number-index l.cites) l.place
