use Rattle.std.proofs.Common.{◌≡◌, ◌++◌, take}
use Rattle.fapp_gen.specs.Lines.{spaced}
use Rattle.fapp_gen.proofs.line.push_numbers.Given as goal

abbrev pub invariant-loop-number : goal.invariant-loop-number
invariant-loop-number l = l.out.items ≡ l.fn.out.items ++ spaced (take l.number-index l.numbers)
