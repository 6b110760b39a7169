use Rattle.std.proofs.Common.{◌<◌, All, take}
use Rattle.cert_merge.proofs.old_rows.room_of_placed.Given as goal

abbrev pub invariant-loop-place : goal.invariant-loop-place
invariant-loop-place l = All (λ p. p.0 < l.room) (take l.place-index l.placed)
