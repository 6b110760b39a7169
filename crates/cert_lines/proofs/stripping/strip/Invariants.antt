use Rattle.std.proofs.Common.{◌≡◌, take}
use Rattle.cert_lines.specs.Stripping.{stripped_from}
use Rattle.cert_lines.proofs.stripping.strip.Given as goal

-- the lines so far
abbrev pub invariant-loop-line : goal.invariant-loop-line
invariant-loop-line l = l.out.items ≡ stripped_from l.lines (take l.line-index l.lines)
