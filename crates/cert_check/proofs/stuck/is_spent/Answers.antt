use Rattle.std.proofs.Common.{ℕ, ◌≡◌, ◌<◌, false, subst, sym, ◌∙◌, arith}
use Rattle.std.specs.List.{list_any, range_with_len}
use Rattle.fapp_model.specs.Assignments.{count_at}
use Rattle.cert_check.specs.Scenes.{excluded_by}
use Rattle.cert_check.proofs.Spent.{kept, some-left, none-left}
use Rattle.cert_check.proofs.OneMoreNumber.{none_range}
use Rattle.cert_check.proofs.stuck.is_spent.Goals as goal

pub returns-then-remains : goal.returns-then-remains
returns-then-remains c =
    let scene = c.args.scene in
    let small : c.loop-index.index < count_at scene.instance.now c.args.path = omega (arith, c.count_of-count.ensures.count) in
    some-left (excluded_by scene c.args.literals.now) scene.instance.now scene.level c.args.literals.now c.args.path c.loop-index.index small (sym c.remains.ensures ∙ c.if-remains.true)

pub loop-index-preserved : goal.loop-index-preserved
loop-index-preserved c =
    let scene = c.args.scene in
    none_range (kept (excluded_by scene c.args.literals.now) scene.instance.now scene.level c.args.literals.now c.args.path) c.loop-index.index c.loop-index.invariant (sym c.remains.ensures ∙ c.if-remains.false)

pub returns : goal.returns
returns c =
    let scene = c.args.scene in
    let all : c.loop-index.index ≡ count_at scene.instance.now c.args.path = omega (arith, c.count_of-count.ensures.count) in
    none-left (excluded_by scene c.args.literals.now) scene.instance.now scene.level c.args.literals.now c.args.path
    (subst (λ (n : ℕ). list_any (kept (excluded_by scene c.args.literals.now) scene.instance.now scene.level c.args.literals.now c.args.path) (range_with_len 0 n) ≡ false) all c.loop-index.invariant)
