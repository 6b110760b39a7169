use Rattle.std.proofs.Common.{◌≡◌, take, fold, None}
use Rattle.cert_lines.specs.acceptance.RootFaults.{with_root_line}
use Rattle.cert_lines.proofs.root.root_tag.Given as goal

-- the lines so far
abbrev pub invariant-loop-line : goal.invariant-loop-line
invariant-loop-line l = l.found ≡ fold with_root_line None (take l.line-index l.lines)
