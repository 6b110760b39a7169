use Rattle.std.proofs.Common.{◌≡◌}
use Rattle.search_log.specs.GoodLogs.{all_lines, pieces_of}
use Rattle.cert_merge.proofs.segments.parted.Given as goal

abbrev pub invariant-loop-log : goal.invariant-loop-log
invariant-loop-log l = (l.rests.items ≡ all_lines l.yielded) × (l.pieces.items ≡ pieces_of l.yielded)
