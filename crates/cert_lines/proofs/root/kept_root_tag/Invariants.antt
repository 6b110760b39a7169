use Rattle.std.proofs.Common.{◌≡◌, take, fold, None}
use Rattle.cert_lines.specs.acceptance.Deleted.{kept_from}
use Rattle.cert_lines.specs.acceptance.RootFaults.{with_root_line}
use Rattle.cert_lines.proofs.root.kept_root_tag.Given as goal

-- the lines so far
abbrev pub invariant-loop-place : goal.invariant-loop-place
invariant-loop-place l = l.found ≡ fold with_root_line None (kept_from l.lines 1 (take l.place l.lines))
