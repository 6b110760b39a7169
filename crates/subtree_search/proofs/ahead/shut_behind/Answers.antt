use Rattle.std.proofs.Common.{◌≡◌, ◌<◌, length, get_or, sym, ap, subst, ◌∙◌}
use Rattle.fapp_model.specs.search.WorkOrder.{work_order}
use Rattle.choice_counts.specs.ForwardStates.{ForwardState}
use Rattle.subtree_search.proofs.Looking.{order-small}
use Rattle.subtree_search.proofs.ahead.shut_behind.Goals as goal

pub shut_at-node-requires-clause-path : goal.shut_at-node-requires-clause-path
shut_at-node-requires-clause-path c = subst (λ (s : ForwardState). get_or c.order-order.result.now c.loop-later.later 0 < length s.instance.paths) (sym c.loop-later.invariant)
    (order-small c.args.forward.now.instance c.order-order.result.now c.loop-later.later (c.order-order.ensures ∙ ap work_order c.tables.ensures) c.loop-later-test.true)
