use Rattle.std.proofs.Common.{sym, take, ◌∙◌}
use Rattle.cert_lines.specs.acceptance.LineFaults.{child_fault}
use Rattle.cert_check.proofs.Firsts.{first_at, first_more}
use Rattle.cert_check.proofs.cites.children_fault.Goals as goal

pub returns-in-Some : goal.returns-in-Some
returns-in-Some c = sym (first_at (child_fault (take c.args.scene.n c.args.scene.lines.now) c.args.scene.tag c.args.literals.now c.args.path) c.args.children.now c.loop-child.child-index _ c.in-Some.cause c.loop-child-test.true c.loop-child.invariant (sym c.child_fault.ensures ∙ c.in-Some.is))

pub loop-child-preserved : goal.loop-child-preserved
loop-child-preserved c = first_more (child_fault (take c.args.scene.n c.args.scene.lines.now) c.args.scene.tag c.args.literals.now c.args.path) c.args.children.now c.loop-child.child-index _ c.loop-child-test.true c.loop-child.invariant (sym c.child_fault.ensures ∙ c.in_default.is)
