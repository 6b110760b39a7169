use Rattle.std.proofs.Common.{◌≡◌, ◌++◌, ◌-◌, flat_map}
use Rattle.std.specs.List.{range_with_len}
use Rattle.fapp_gen.specs.Lines.{line_text}
use Rattle.fapp_gen.specs.Generated.{record_lines}
use Rattle.fapp_gen.proofs.network.push_records.Given as goal

abbrev pub invariant-loop-path : goal.invariant-loop-path
invariant-loop-path l = l.out.items ≡ l.fn.out.items ++ flat_map line_text (flat_map (record_lines l.fn.number) (range_with_len 3 (l.path - 3)))
