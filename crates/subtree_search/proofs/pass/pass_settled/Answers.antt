use Rattle.std.proofs.Common.{◌≡◌, true, false, subst, sym, ap, arith}
use Rattle.settle_laws.specs.Passed.{IsPassedBy, Passes}
use Rattle.subtree_search.proofs.PassingBy.{asked-passed, passes-none, passes-trans}
use Rattle.subtree_search.proofs.pass.pass_settled.Goals as goal

pub loop-node-init : goal.loop-node-init
loop-node-init c = passes-none c.args.forward.now.instance c.args.recall.now.first c.args.forward.now.pushed c.args.log.now c.args.node.now c.requires.within

pub loop-node-preserved : goal.loop-node-preserved
loop-node-preserved c =
    let step = subst (λ b. IsPassedBy c.args.forward.now.instance c.args.recall.now.first c.args.forward.now.pushed c.args.log.now c.loop-node.node c.is_passed_by.new.node b) c.if-not-is_passed_by.false c.is_passed_by.ensures in
    passes-trans c.args.forward.now.instance c.args.recall.now.first c.args.forward.now.pushed c.args.log.now c.args.node.now c.loop-node.node c.is_passed_by.new.node c.loop-node.invariant step.0
