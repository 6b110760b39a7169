use Rattle.std.proofs.Common.{◌≡◌, map, take}
use Rattle.cert_lines.specs.declared.answer.Child.{Child}
use Rattle.cert_merge.specs.Compacting.{noted}
use Rattle.cert_merge.proofs.citing.note_children.Given as goal

abbrev pub invariant-loop-child : goal.invariant-loop-child
invariant-loop-child l = l.last ≡ noted l.fn.last l.n (map (λ (child : Child). child.cite) (take l.child-index l.children))
