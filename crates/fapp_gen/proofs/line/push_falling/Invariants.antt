use Rattle.std.proofs.Common.{◌≡◌, ◌++◌, ◌-◌, ◌*◌, map}
use Rattle.std.specs.List.{range_with_len}
use Rattle.fapp_gen.specs.Lines.{spaced}
use Rattle.fapp_gen.proofs.line.push_falling.Given as goal

abbrev pub invariant-loop-level : goal.invariant-loop-level
invariant-loop-level l = l.out.items ≡ l.fn.out.items ++ spaced (map (λ level. l.fn.first - l.fn.step * level) (range_with_len 0 l.level))
