use Rattle.std.proofs.Common.{ℕ, ◌+◌, ◌<◌, ◌≤◌, List, length, All, take, get_or, subst, arith}
use Rattle.std.proofs.lemmas.List.{take_all}
use Rattle.std.proofs.lemmas.List.Elements.{All-more, All-weaker}
use Rattle.cert_merge.proofs.old_rows.room_of_placed.Goals.{then-room-place, else-room-place}
use Rattle.cert_merge.proofs.old_rows.room_of_placed.Goals as goal

abbrev no_place : ℕ × ℕ
no_place = (0, 0)

more : (ps : List (ℕ × ℕ)) (i low high : ℕ) (d : ℕ × ℕ) → i < length ps → All (λ p. p.0 < low) (take i ps) → low ≤ high → (get_or ps i d).0 < high →
    All (λ p. p.0 < high) (take (i + 1) ps)
more ps i low high d inside before rise here =
    All-more (λ (p : ℕ × ℕ). p.0 < high) ps i d inside (All-weaker (λ (p : ℕ × ℕ). p.0 < low) (λ (p : ℕ × ℕ). p.0 < high) (λ p l. omega arith) (take i ps) before) here

pub loop-place-preserved : goal.loop-place-preserved
loop-place-preserved c = elim c.if-room-place.branch [
  | then-room-place w ↦ more c.args.placed.now c.loop-place.place-index c.loop-place.room c.if-room-place.room no_place c.loop-place-test.true c.loop-place.invariant
      (omega (arith, w.room-is, w.if-room-place.true)) (omega (arith, w.room-is))
  | else-room-place w ↦ more c.args.placed.now c.loop-place.place-index c.loop-place.room c.if-room-place.room no_place c.loop-place-test.true c.loop-place.invariant
      (omega (arith, w.room-is)) (omega (arith, w.room-is, w.if-room-place.false))
]

pub returns : goal.returns
returns c = subst (λ (ps : List (ℕ × ℕ)). All (λ p. p.0 < c.loop-place.room) ps) (take_all c.loop-place.place-index c.args.placed.now (omega (arith, c.loop-place-test.false))) c.loop-place.invariant
