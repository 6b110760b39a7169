use Rattle.std.proofs.Common.{List}
use Rattle.search_log.specs.declared.line.LogLine.{LogLine}
use Rattle.search_log.specs.declared.piece.Piece.{Piece}
use Rattle.cert_merge.specs.Growth.{AreLeft}
use Rattle.cert_merge.proofs.Lefts.{written-more}
use Rattle.cert_merge.proofs.Numbers.{room-and}
use Rattle.cert_merge.proofs.merged.Certificate.write_pieces.Goals as goal

abbrev no_piece : Piece
no_piece = record { row = 0; log = 0; last = 0 }

pub loop-piece-preserved : goal.loop-piece-preserved
loop-piece-preserved c = (
  room-and c.args.self.now c.loop-piece.self c.write_piece.new.self c.loop-piece.invariant.0 c.in_ok-write_piece.ensures.room,
  λ (logs : List (List LogLine)) (left : AreLeft logs c.args.self.now c.args.rests.now).
      let before = c.loop-piece.invariant.1 logs left in
      written-more logs c.args.pieces.now c.loop-piece.piece-index c.args.self.now c.loop-piece.self c.write_piece.new.self c.loop-piece.rests c.write_piece.new.rests no_piece c.loop-piece-test.true before
      (c.in_ok-write_piece.ensures.writes logs before.left) (c.in_ok-write_piece.ensures.left logs before.left),
)
