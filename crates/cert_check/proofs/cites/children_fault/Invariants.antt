use Rattle.std.proofs.Common.{◌≡◌, take, None}
use Rattle.cert_lines.specs.acceptance.LineFaults.{child_fault, first_of}
use Rattle.cert_check.proofs.cites.children_fault.Given as goal

-- no fault so far
abbrev pub invariant-loop-child : goal.invariant-loop-child
invariant-loop-child l = first_of (child_fault (take l.scene.n l.scene.lines.now) l.scene.tag l.literals l.path) (take l.child-index l.children) ≡ None
