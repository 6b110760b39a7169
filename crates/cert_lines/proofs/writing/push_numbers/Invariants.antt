use Rattle.std.proofs.Common.{◌≡◌, ◌++◌, take}
use Rattle.cert_lines.specs.Spaced.{spaced}
use Rattle.cert_lines.proofs.writing.push_numbers.Given as goal

abbrev pub invariant-loop-number : goal.invariant-loop-number
invariant-loop-number l = l.out.items ≡ l.fn.out.items ++ spaced (take l.number-index l.numbers)
