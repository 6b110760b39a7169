use Rattle.std.proofs.Common.{◌≡◌, ◌&&◌, false}
use Rattle.std.specs.List.{list_any, range_with_len}
use Rattle.cert_check.specs.Weighed.{near_at, stuck_by}
use Rattle.cert_check.proofs.stuck.near_stuck.Given as goal

-- none of the paths so far
abbrev pub invariant-loop-path : goal.invariant-loop-path
invariant-loop-path l = list_any (λ path. near_at l.near path && stuck_by l.scene l.literals path) (range_with_len 0 l.path) ≡ false
