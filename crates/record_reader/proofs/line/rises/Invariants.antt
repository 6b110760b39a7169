use Rattle.std.proofs.Common.{◌≡◌, drop}
use Rattle.record_reader.specs.Entries.{rises, rises_after}
use Rattle.record_reader.proofs.line.rises.Given as goal

abbrev pub invariant-loop-distance : goal.invariant-loop-distance
invariant-loop-distance l = rises_after l.last (drop l.distance-index l.dist) ≡ rises l.dist
