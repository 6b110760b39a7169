use Rattle.std.proofs.Common.{◌≡◌, ◌++◌, take}
use Rattle.std.specs.List.{flat_map}
use Rattle.cert_lines.specs.Spelling.{line_text, plan_lines}
use Rattle.cert_lines.proofs.writing.push_plan.Given as goal

abbrev pub invariant-loop-place : goal.invariant-loop-place
invariant-loop-place l = l.out.items ≡ l.fn.out.items ++ flat_map line_text (plan_lines l.paths (take l.place l.plan))
