use Rattle.std.proofs.Common.{◌≡◌, ◌++◌, ◌-◌, map, flat_map}
use Rattle.std.specs.List.{range_with_len}
use Rattle.fapp_gen.specs.Lines.{line_text}
use Rattle.fapp_gen.specs.Generated.{path_line}
use Rattle.fapp_gen.proofs.network.push_further_paths.Given as goal

abbrev pub invariant-loop-path : goal.invariant-loop-path
invariant-loop-path l = l.out.items ≡ l.fn.out.items ++ flat_map line_text (map (λ path. path_line path 2) (range_with_len 3 (l.path - 3)))
