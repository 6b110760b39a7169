use Rattle.std.proofs.Common.{eqb, arith}
use Rattle.std.proofs.lemmas.List.Elements.{Contains-get_or}
use Rattle.fapp_model.proofs.Anys.{any-member}
use Rattle.search_log.specs.declared.line.ChoiceRef.{ChoiceRef}
use Rattle.subtree_search.proofs.explain.is_at.Goals as goal

pub returns-clause-listed : goal.returns-clause-listed
returns-clause-listed c = λ t. any-member (λ (r : ChoiceRef). eqb r.choice c.args.choice) c.args.refs.now _ (Contains-get_or c.args.refs.now c.args.place _ (omega (arith, c.if-place-refs.false))) t
