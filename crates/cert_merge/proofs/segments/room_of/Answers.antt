use Rattle.std.proofs.Common.{ℕ, ◌+◌, ◌<◌, ◌≤◌, List, length, All, take, get_or, subst, arith}
use Rattle.std.proofs.lemmas.List.{take_all}
use Rattle.std.proofs.lemmas.List.Elements.{All-more, All-weaker}
use Rattle.search_log.specs.declared.piece.Piece.{Piece}
use Rattle.cert_merge.proofs.segments.room_of.Goals.{then-room-piece, else-room-piece}
use Rattle.cert_merge.proofs.segments.room_of.Goals as goal

abbrev no_piece : Piece
no_piece = record { row = 0; log = 0; last = 0 }

more : (ps : List Piece) (i low high : ℕ) (d : Piece) → i < length ps → All (λ p. p.row < low) (take i ps) → low ≤ high → (get_or ps i d).row < high →
    All (λ p. p.row < high) (take (i + 1) ps)
more ps i low high d inside before rise here =
    All-more (λ (p : Piece). p.row < high) ps i d inside (All-weaker (λ (p : Piece). p.row < low) (λ (p : Piece). p.row < high) (λ p l. omega arith) (take i ps) before) here

pub loop-piece-preserved : goal.loop-piece-preserved
loop-piece-preserved c = elim c.if-room-piece.branch [
  | then-room-piece w ↦ more c.args.pieces.now c.loop-piece.piece-index c.loop-piece.room c.if-room-piece.room no_piece c.loop-piece-test.true c.loop-piece.invariant
      (omega (arith, w.room-is, w.if-room-piece.true)) (omega (arith, w.room-is))
  | else-room-piece w ↦ more c.args.pieces.now c.loop-piece.piece-index c.loop-piece.room c.if-room-piece.room no_piece c.loop-piece-test.true c.loop-piece.invariant
      (omega (arith, w.room-is)) (omega (arith, w.room-is, w.if-room-piece.false))
]

pub returns : goal.returns
returns c = subst (λ (ps : List Piece). All (λ p. p.row < c.loop-piece.room) ps) (take_all c.loop-piece.piece-index c.args.pieces.now (omega (arith, c.loop-piece-test.false))) c.loop-piece.invariant
