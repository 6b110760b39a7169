use Rattle.std.proofs.Common.{◌<◌, take, sym, ◌∙◌, arith}
use Rattle.fapp_model.specs.Assignments.{count_at}
use Rattle.cert_lines.specs.acceptance.LineFaults.{is_settled}
use Rattle.cert_check.proofs.OneMoreNumber.{all_range_step, fails_at_range}
use Rattle.cert_check.proofs.line.all_settled.Goals as goal

pub returns-then-not-branch : goal.returns-then-not-branch
returns-then-not-branch c =
    let scene = c.args.scene in
    let small : c.loop-index.index < count_at scene.instance.now c.args.path = omega (arith, c.count_of-count.ensures.count) in
    sym (fails_at_range (is_settled scene.instance.now (take scene.n scene.lines.now) scene.tag c.args.literals.now c.args.path c.args.children.now) (count_at scene.instance.now c.args.path) c.loop-index.index small (sym c.in_ok-is_settled.ensures ∙ c.if-not-branch.true))

pub loop-index-preserved : goal.loop-index-preserved
loop-index-preserved c =
    let scene = c.args.scene in
    all_range_step (is_settled scene.instance.now (take scene.n scene.lines.now) scene.tag c.args.literals.now c.args.path c.args.children.now) c.loop-index.index c.loop-index.invariant (sym c.in_ok-is_settled.ensures ∙ c.if-not-branch.false)
