use Rattle.std.proofs.Common.{◌≡◌, ◌++◌, map, take}
use Rattle.search_log.specs.GoodLogs.{piece_of}
use Rattle.cert_merge.proofs.segments.push_pieces.Given as goal

abbrev pub invariant-loop-segment : goal.invariant-loop-segment
invariant-loop-segment l = l.pieces.items ≡ l.fn.pieces.items ++ map (piece_of l.log) (take l.segment-index l.segments)
