use Rattle.std.proofs.Common.{◌≡◌, ◌+◌, map}
use Rattle.std.specs.List.{range_with_len}
use Rattle.cert_lines.specs.Stripping.{stripped_number}
use Rattle.cert_lines.proofs.stripping.stripped_numbers.Given as goal

-- the numbers up to a line
abbrev pub invariant-loop-line : goal.invariant-loop-line
invariant-loop-line l = record {
  count : l.count ≡ stripped_number l.lines l.line-index;
  numbers : l.numbers.items ≡ map (stripped_number l.lines) (range_with_len 0 (l.line-index + 1));
}
