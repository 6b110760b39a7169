use Rattle.std.proofs.Common.{List}
use Rattle.search_log.specs.declared.line.LogLine.{LogLine}
use Rattle.cert_merge.specs.Growth.{AreLeft, IsSameRoom}
use Rattle.cert_merge.proofs.Lefts.{AreRestsWritten}
use Rattle.cert_merge.proofs.merged.Certificate.write_rests.Given as goal

abbrev pub invariant-loop-log : goal.invariant-loop-log
invariant-loop-log l = IsSameRoom l.fn.self l.self
    × ((logs : List (List LogLine)) → AreLeft logs l.fn.self l.fn.rests → AreRestsWritten logs l.log l.fn.self l.self l.rests)
