use Rattle.std.proofs.Common.{arith}
use Rattle.subtree_search.proofs.Explaining.{asked-few}
use Rattle.subtree_search.proofs.ahead.has_few_left.Goals as goal

pub overflow_cast-choice : goal.overflow_cast-choice
overflow_cast-choice c = let few = asked-few c.args.forward.now.instance c.args.forward.now.pushed c.args.node.now c.requires.asked in omega (arith, few, c.loop-choice-test.true)
