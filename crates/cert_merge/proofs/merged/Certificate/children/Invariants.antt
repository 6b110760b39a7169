use Rattle.std.proofs.Common.{◌≡◌, take}
use Rattle.std.specs.List.{flat_map}
use Rattle.merge_laws.specs.Stages.{merged_number}
use Rattle.merge_laws.specs.Written.{written_child}
use Rattle.cert_merge.proofs.merged.Certificate.children.Given as goal

abbrev pub invariant-loop-cited : goal.invariant-loop-cited
invariant-loop-cited l = l.children.items ≡ flat_map (written_child (merged_number l.self l.log)) (take l.cited-index l.refs)
