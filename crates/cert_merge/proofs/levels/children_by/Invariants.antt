use Rattle.std.proofs.Common.{◌≡◌}
use Rattle.cert_merge.specs.Growth.{children_by}
use Rattle.cert_merge.proofs.levels.children_by.Given as goal

abbrev pub invariant-loop-index : goal.invariant-loop-index
invariant-loop-index l = l.children.items ≡ children_by l.index l.next
