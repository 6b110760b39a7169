use Rattle.std.proofs.Common.{◌≡◌, ◌++◌, take}
use Rattle.cert_lines.specs.Spelling.{lines_text}
use Rattle.cert_lines.proofs.writing.push_lines.Given as goal

abbrev pub invariant-loop-line : goal.invariant-loop-line
invariant-loop-line l = l.out.items ≡ l.fn.out.items ++ lines_text (take l.line-index l.lines)
