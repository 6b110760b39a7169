use Rattle.std.proofs.Common.{◌<◌, length}
use Rattle.cert_merge.specs.Growth.{IsSameRoom}
use Rattle.cert_merge.proofs.GrowingLists.{IsOnTheWay}
use Rattle.cert_merge.proofs.merged.Certificate.write_lines.Given as goal

abbrev pub invariant-loop : goal.invariant-loop
invariant-loop l = (l.log < length l.self.own) × IsSameRoom l.fn.self l.self × IsOnTheWay l.log l.count l.counter l.fn.rest l.fn.self l.rest l.self
