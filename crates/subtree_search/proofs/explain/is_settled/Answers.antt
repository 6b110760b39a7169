use Rattle.std.proofs.Common.{◌≡◌, IsTrue, eqb, inl, inr, sym, subst, ◌∙◌}
use Rattle.std.specs.List.{list_any}
use Rattle.search_log.specs.declared.line.ChoiceRef.{ChoiceRef}
use Rattle.subtree_search.proofs.explain.is_settled.Goals as goal

pub returns-then-is_at-clause-settled : goal.returns-then-is_at-clause-settled
returns-then-is_at-clause-settled c = λ t. inl (subst (λ refs. IsTrue (list_any (λ (r : ChoiceRef). eqb r.choice c.args.choice) refs)) c.as_slice.ensures (c.is_at.ensures.listed c.if-is_at.true))

pub returns-clause-settled : goal.returns-clause-settled
returns-clause-settled c = λ t. inr (c.is_dead_with.ensures.dead t)
