use Rattle.std.proofs.Common.{sym, ◌∙◌}
use Rattle.cert_check.proofs.Deciding.{stuck-near, stuck-far}
use Rattle.cert_check.proofs.stuck.any_stuck.Goals as goal

pub returns-then-branch : goal.returns-then-branch
returns-then-branch c = stuck-near c.args.scene c.args.literals.now c.args.near.now (sym c.in_ok-near_stuck.ensures ∙ c.if-branch.true)

pub returns : goal.returns
returns c = c.far_stuck.ensures ∙ stuck-far c.args.scene c.args.literals.now c.args.near.now (sym c.in_ok-near_stuck.ensures ∙ c.if-branch.false)
