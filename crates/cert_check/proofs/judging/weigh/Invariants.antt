use Rattle.std.proofs.Common.{◌≡◌, ◌≤◌, ◌*◌, ◌&&◌, false, cond, sum_by}
use Rattle.std.specs.List.{list_any, range_with_len}
use Rattle.fapp_model.specs.search.Partials.{names}
use Rattle.cert_check.specs.Weighed.{near_at, stuck_by, least_by}
use Rattle.cert_check.specs.Weights.{added_most}
use Rattle.cert_check.proofs.judging.weigh.Given as goal

-- the paths so far
abbrev pub invariant-loop-path : goal.invariant-loop-path
invariant-loop-path l = record {
  calm : list_any (λ path. near_at l.near path && stuck_by l.scene l.literals path) (range_with_len 0 l.path) ≡ false;
  v : l.sum.v ≡ sum_by (λ path. cond (names l.literals path) 0 (least_by l.scene l.literals path).v) (range_with_len 0 l.path);
  s : l.sum.s ≡ sum_by (λ path. cond (names l.literals path) 0 (least_by l.scene l.literals path).s) (range_with_len 0 l.path);
  small_v : l.sum.v ≤ l.path * added_most;
  small_s : l.sum.s ≤ l.path * added_most;
}
