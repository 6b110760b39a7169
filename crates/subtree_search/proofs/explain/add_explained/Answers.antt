use Rattle.std.proofs.Common.{◌≡◌, List, ◌++◌, Some, sym, ap, subst, ◌∙◌}
use Rattle.fapp_model.specs.declared.literal.Literal.{Literal}
use Rattle.settle_laws.specs.Explained.{Explains}
use Rattle.subtree_search.proofs.Explaining.{explains-all, lined-err}
use Rattle.subtree_search.proofs.explain.add_explained.Goals as goal

pub returns-in_err-extend_from_slice-clause-lined : goal.returns-in_err-extend_from_slice-clause-lined
returns-in_err-extend_from_slice-clause-lined c =
    let f = c.args.forward.now in (
      f.pushed,
      explains-all f.instance c.args.seen.now.cites.items c.args.log.now.lines f.pushed c.args.node c.requires.asked c.requires.closed,
      lined-err f.instance f.pushed c.args.node.tag (Some c.args.node.path) c.args.node.refs c.args.log.now c.from_residual.result c.from_residual.ensures.0,
    )

pub reduce-requires-clause-explains : goal.reduce-requires-clause-explains
reduce-requires-clause-explains c =
    let f = c.args.forward.now in
    subst (λ (literals : List Literal). Explains f.instance c.args.seen.now.cites.items c.args.log.now.lines literals f.pushed c.args.node)
    (sym (c.deref.ensures.value ∙ (c.in_ok-extend_from_slice.ensures.items ∙ (ap (λ (xs : List Literal). xs ++ c.pushed.result.now) c.clear.ensures.items ∙ c.pushed.ensures.literals))))
    (explains-all f.instance c.args.seen.now.cites.items c.args.log.now.lines f.pushed c.args.node c.requires.asked c.requires.closed)
