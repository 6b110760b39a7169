use Rattle.std.proofs.Common.{below_more, ℕ, get_or, subst, arith}
use Rattle.std.proofs.lemmas.List.{get_or_default}
use Rattle.search_log.specs.declared.line.ChoiceRef.{ChoiceRef}
use Rattle.subtree_search.specs.Explaining.{IsOffPath}
use Rattle.subtree_search.proofs.explain.is_used.Goals as goal

pub loop-r-preserved : goal.loop-r-preserved
loop-r-preserved c = λ i d l. below_more (λ (j : ℕ). IsOffPath c.args.seen.now.cites.items c.args.log.now.lines c.args.path (get_or c.args.refs.now j d).line) c.loop-r.r-index (λ j k. c.loop-r.invariant j d k)
    (subst (λ (r : ChoiceRef). IsOffPath c.args.seen.now.cites.items c.args.log.now.lines c.args.path r.line) (get_or_default c.args.refs.now c.loop-r.r-index _ d c.loop-r-test.true) (c.may_name.ensures c.if-may_name.false)) i l

pub returns : goal.returns
returns c = λ e i d l. c.loop-r.invariant i d (omega (arith, l, c.loop-r-test.false))
