use Rattle.std.proofs.Common.{◌<◌, All, take}
use Rattle.cert_merge.proofs.segments.room_of.Given as goal

abbrev pub invariant-loop-piece : goal.invariant-loop-piece
invariant-loop-piece l = All (λ p. p.row < l.room) (take l.piece-index l.pieces)
