use Rattle.std.proofs.Common.{◌≡◌, false, take}
use Rattle.cert_lines.specs.acceptance.Excluded.{is_cited}
use Rattle.cert_check.proofs.exclusion.is_cited.Given as goal

-- none of the cites so far
abbrev pub invariant-loop-n : goal.invariant-loop-n
invariant-loop-n l = is_cited l.earlier (take l.n-index l.cites) l.literals l.a ≡ false
