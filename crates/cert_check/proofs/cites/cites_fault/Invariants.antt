use Rattle.std.proofs.Common.{◌≡◌, take, None}
use Rattle.cert_lines.specs.acceptance.Contained.{has_all_but_one}
use Rattle.cert_lines.specs.acceptance.LineFaults.{cite_fault, first_of}
use Rattle.cert_check.proofs.cites.cites_fault.Given as goal

-- no fault so far
abbrev pub invariant-loop-cite : goal.invariant-loop-cite
invariant-loop-cite l = first_of (cite_fault (take l.scene.n l.scene.lines.now) l.scene.tag (has_all_but_one l.literals)) (take l.cite-index l.cites) ≡ None
