use Rattle.std.proofs.Common.{◌≡◌, List, [], ◌++◌, None, sym, ap, subst, ◌∙◌}
use Rattle.fapp_model.specs.declared.literal.Literal.{Literal}
use Rattle.settle_laws.specs.Explained.{IsDeadPart}
use Rattle.tries_laws.proofs.PrefixParts.{prefix-is_partial}
use Rattle.subtree_search.proofs.Explaining.{lined-err, part-all}
use Rattle.subtree_search.proofs.explain.add_dead.Goals as goal

pub returns-in_err-extend_from_slice-clause-lined : goal.returns-in_err-extend_from_slice-clause-lined
returns-in_err-extend_from_slice-clause-lined c =
    let f = c.args.forward.now in (
      f.pushed,
      part-all f.instance c.args.tag.code f.pushed (prefix-is_partial f.instance f.pushed c.requires.prefix) c.requires.dead,
      lined-err f.instance f.pushed c.args.tag None [] c.args.log.now c.from_residual.result c.from_residual.ensures.0,
    )

pub reduce_dead-requires-clause-part : goal.reduce_dead-requires-clause-part
reduce_dead-requires-clause-part c =
    let f = c.args.forward.now in
    subst (λ (literals : List Literal). IsDeadPart f.instance c.args.tag.code literals f.pushed)
    (sym (c.deref.ensures.value ∙ (c.in_ok-extend_from_slice.ensures.items ∙ (ap (λ (xs : List Literal). xs ++ c.pushed.result.now) c.clear.ensures.items ∙ c.pushed.ensures.literals))))
    (part-all f.instance c.args.tag.code f.pushed (prefix-is_partial f.instance f.pushed c.requires.prefix) c.requires.dead)
