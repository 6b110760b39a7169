use Rattle.std.proofs.Common.{ℕ, ◌<◌, ◌&&◌, cond, length, subst, arith}
use Rattle.fapp_model.specs.search.Partials.{names}
use Rattle.fapp_model.proofs.Anys.{any-member}
use Rattle.fapp_model.proofs.Members.{in-range}
use Rattle.std.specs.List.{range_with_len}
use Rattle.cert_check.specs.Weighed.{IsStep, near_at, stuck_by, least_by}
use Rattle.cert_check.proofs.OneMoreNumber.{none_range, sum_range_step}
use Rattle.cert_check.proofs.judging.weigh.Goals as goal

pub returns-in-None : goal.returns-in-None
returns-in-None c =
    let scene = c.args.scene in
    let literals = c.args.literals.now in
    let near = c.args.near.now in
    let path = c.loop-path.path in
    let stuck = subst (IsStep scene literals near path) c.in-None.is c.in_ok-step_of.ensures in
    let small : path < length scene.instance.now.paths = omega arith in
    any-member (λ (q : ℕ). near_at near q && stuck_by scene literals q) (range_with_len 0 (length scene.instance.now.paths)) path (in-range (length scene.instance.now.paths) path small) stuck

pub loop-path-preserved : goal.loop-path-preserved
loop-path-preserved c =
    let scene = c.args.scene in
    let literals = c.args.literals.now in
    let near = c.args.near.now in
    let path = c.loop-path.path in
    let more = c.in-Some.more in
    let step = subst (IsStep scene literals near path) c.in-Some.is c.in_ok-step_of.ensures in
    record {
      calm = none_range (λ (q : ℕ). near_at near q && stuck_by scene literals q) path c.loop-path.invariant.calm step.0;
      v = sum_range_step (λ (q : ℕ). cond (names literals q) 0 (least_by scene literals q).v) path c.loop-path.sum.v more.v c.loop-path.invariant.v step.1;
      s = sum_range_step (λ (q : ℕ). cond (names literals q) 0 (least_by scene literals q).s) path c.loop-path.sum.s more.s c.loop-path.invariant.s step.2;
      small_v = let h = step.3 in omega arith;
      small_s = let h = step.4 in omega arith;
    }
