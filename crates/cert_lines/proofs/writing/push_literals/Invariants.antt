use Rattle.std.proofs.Common.{◌≡◌, ◌++◌, ◌∷◌, take, length}
use Rattle.std.specs.List.{flat_map}
use Rattle.cert_lines.specs.Spelling.{literal_numbers}
use Rattle.cert_lines.specs.Spaced.{spaced}
use Rattle.cert_lines.proofs.writing.push_literals.Given as goal

abbrev pub invariant-loop-literal : goal.invariant-loop-literal
invariant-loop-literal l = l.out.items ≡ l.fn.out.items ++ spaced (length l.literals ∷ flat_map literal_numbers (take l.literal-index l.literals))
