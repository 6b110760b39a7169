use Rattle.std.proofs.Common.{◌≡◌, true, take}
use Rattle.std.specs.List.{list_all, range_with_len}
use Rattle.cert_lines.specs.acceptance.LineFaults.{is_settled}
use Rattle.cert_check.proofs.line.all_settled.Given as goal

-- each choice so far
abbrev pub invariant-loop-index : goal.invariant-loop-index
invariant-loop-index l = list_all (is_settled l.scene.instance.now (take l.scene.n l.scene.lines.now) l.scene.tag l.literals l.path l.children) (range_with_len 0 l.index) ≡ true
