use Rattle.std.proofs.Common.{◌≡◌, true, take, ◌∷◌}
use Rattle.cert_lines.specs.acceptance.Contained.{has_all}
use Rattle.cert_check.proofs.exclusion.has_all_with.Given as goal

-- each of the list so far
abbrev pub invariant-loop-a : goal.invariant-loop-a
invariant-loop-a l = has_all (l.first ∷ l.literals) (take l.a-index l.cited) ≡ true
