use Rattle.std.proofs.Common.{List}
use Rattle.search_log.specs.declared.line.LogLine.{LogLine}
use Rattle.cert_merge.specs.Growth.{AreLeft, IsSameRoom}
use Rattle.cert_merge.proofs.Lefts.{AreWritten}
use Rattle.cert_merge.proofs.merged.Certificate.write_pieces.Given as goal

abbrev pub invariant-loop-piece : goal.invariant-loop-piece
invariant-loop-piece l = IsSameRoom l.fn.self l.self
    × ((logs : List (List LogLine)) → AreLeft logs l.fn.self l.fn.rests → AreWritten logs l.pieces l.piece-index l.fn.self l.self l.rests)
