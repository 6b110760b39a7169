use Rattle.std.proofs.Common.{◌≡◌, ◌++◌, ◌∷◌, take, length}
use Rattle.std.specs.List.{flat_map}
use Rattle.cert_lines.specs.Spelling.{child_numbers}
use Rattle.cert_lines.specs.Spaced.{spaced}
use Rattle.cert_lines.proofs.writing.push_children.Given as goal

abbrev pub invariant-loop-child : goal.invariant-loop-child
invariant-loop-child l = l.out.items ≡ l.fn.out.items ++ spaced (length l.children ∷ flat_map child_numbers (take l.child-index l.children))
