use Rattle.std.proofs.Common.{refl, arith}
use Rattle.subtree_search.proofs.Explaining.{asked-few}
use Rattle.subtree_search.proofs.PassingBy.{cited-passes, dead-passes}
use Rattle.subtree_search.proofs.pass.is_passed_by.Goals as goal

pub overflow_cast-choice : goal.overflow_cast-choice
overflow_cast-choice c = let few = asked-few c.args.forward.now.instance c.args.forward.now.pushed c.args.node.now c.requires.asked in omega (arith, few, c.requires.more)

pub returns-then-not-is_left : goal.returns-then-not-is_left
returns-then-not-is_left c = (dead-passes c.args.forward.now.instance c.args.recall.now.first c.args.forward.now.pushed c.args.log.now c.args.node.now c.requires.asked c.requires.more _ refl refl refl refl (c.is_left.ensures c.if-not-is_left.true) refl, refl)

pub returns-in-Ok : goal.returns-in-Ok
returns-in-Ok c = (cited-passes c.args.forward.now.instance c.args.recall.now.first c.args.forward.now.pushed c.args.log.now c.args.node.now c.requires.asked c.requires.more _ refl refl refl refl c.in-Some.place c.in-Some.ensures c.in-Ok.ensures.ok, refl)
