use Rattle.std.proofs.Common.{◌≡◌, map, take}
use Rattle.cert_lines.specs.Renumbering.{number_in, renumbered_child}
use Rattle.cert_lines.proofs.renumbering.renumbered_children.Given as goal

-- the children so far
abbrev pub invariant-loop-child : goal.invariant-loop-child
invariant-loop-child l = l.renumbered.items ≡ map (renumbered_child (number_in l.numbers)) (take l.child-index l.children)
