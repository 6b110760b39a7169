use Rattle.std.proofs.Common.{below_more, ℕ, subst, ◌∙◌, arith}
use Rattle.choice_counts.specs.ForwardStates.{ForwardState}
use Rattle.search_log.specs.GoodLines.{IsSettled}
use Rattle.subtree_search.proofs.Explaining.{asked-few}
use Rattle.subtree_search.proofs.explain.is_closed.Goals as goal

pub overflow_cast-choice : goal.overflow_cast-choice
overflow_cast-choice c = let few = asked-few c.args.forward.now.instance c.args.forward.now.pushed c.args.node.now c.requires.asked in omega (arith, few, c.loop-choice-test.true)

pub overflow_cast-choice-in-loop-choice : goal.overflow_cast-choice-in-loop-choice
overflow_cast-choice-in-loop-choice c = let few = asked-few c.args.forward.now.instance c.args.forward.now.pushed c.args.node.now c.requires.asked in omega (arith, few, c.loop-choice-test.true)

pub loop-choice-preserved : goal.loop-choice-preserved
loop-choice-preserved c = (
  c.is_settled.ensures.front ∙ c.loop-choice.invariant.0,
  below_more (λ (i : ℕ). IsSettled c.args.forward.now.instance c.args.node.now.tag.code c.args.forward.now.pushed c.args.node.now.path c.args.node.now.refs i) c.loop-choice.choice c.loop-choice.invariant.1
      (subst (λ (s : ForwardState). IsSettled s.instance c.args.node.now.tag.code s.pushed c.args.node.now.path c.args.node.now.refs c.loop-choice.choice) c.loop-choice.invariant.0
      (c.is_settled.ensures.settled c.if-not-is_settled.false)),
)

pub returns-clause-closed : goal.returns-clause-closed
returns-clause-closed c = λ t i l. c.loop-choice.invariant.1 i (omega (arith, l, c.loop-choice-test.false))
