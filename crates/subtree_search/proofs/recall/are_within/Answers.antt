use Rattle.std.proofs.Common.{below_more, ℕ, List, [], ◌∷◌, ◌++◌, get_or, Contains, subst, arith}
use Rattle.std.proofs.lemmas.List.{get_or_default}
use Rattle.fapp_model.specs.declared.literal.Literal.{Literal}
use Rattle.subtree_search.proofs.recall.are_within.Goals as goal

pub loop-literal-preserved : goal.loop-literal-preserved
loop-literal-preserved c = λ i d l. below_more (λ (j : ℕ). Contains (c.args.forward.now.pushed ++ c.args.a ∷ []) (get_or c.args.literals.now j d)) c.loop-literal.literal-index (λ j k. c.loop-literal.invariant j d k)
    (subst (λ (x : Literal). Contains (c.args.forward.now.pushed ++ c.args.a ∷ []) x) (get_or_default c.args.literals.now c.loop-literal.literal-index _ d c.loop-literal-test.true) (c.is_within.ensures c.if-not-is_within.false)) i l

pub returns : goal.returns
returns c = λ t i d l. c.loop-literal.invariant i d (omega (arith, l, c.loop-literal-test.false))
