use Rattle.std.proofs.Common.{[], ◌∷◌, ◌++◌, ap, ◌∙◌}
use Rattle.fapp_model.specs.search.Partials.{literal}
use Rattle.cert_merge.proofs.GrowingLists.{mapped-more}
use Rattle.cert_merge.proofs.tree.push_longer.Goals as goal

pub loop-index-preserved : goal.loop-index-preserved
loop-index-preserved c = mapped-more (λ index. c.args.list.now ++ literal c.args.step.now.path index ∷ []) c.args.lists.now.items c.loop-index.lists.items c.push.new.self.items c.loop-index.index c.loop-index.invariant
    (c.in_ok-push.ensures.items ∙ ap (λ x. c.loop-index.lists.items ++ x ∷ []) c.in_ok-with_literal.ensures)
