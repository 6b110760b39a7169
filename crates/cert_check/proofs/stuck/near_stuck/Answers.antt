use Rattle.std.proofs.Common.{ℕ, ◌<◌, ◌&&◌, length, sym, ◌∙◌, arith}
use Rattle.cert_check.specs.Weighed.{near_at, stuck_by}
use Rattle.cert_check.proofs.OneMoreNumber.{any_at_range, none_range}
use Rattle.cert_check.proofs.stuck.near_stuck.Goals as goal

pub returns-then-branch : goal.returns-then-branch
returns-then-branch c =
    let small : c.loop-path.path < length c.args.scene.instance.now.paths = omega arith in
    sym (any_at_range (λ (q : ℕ). near_at c.args.near.now q && stuck_by c.args.scene c.args.literals.now q) (length c.args.scene.instance.now.paths) c.loop-path.path small (sym c.in_ok-is_near_stuck.ensures ∙ c.if-branch.true))

pub loop-path-preserved : goal.loop-path-preserved
loop-path-preserved c = none_range (λ (q : ℕ). near_at c.args.near.now q && stuck_by c.args.scene c.args.literals.now q) c.loop-path.path c.loop-path.invariant (sym c.in_ok-is_near_stuck.ensures ∙ c.if-branch.false)
