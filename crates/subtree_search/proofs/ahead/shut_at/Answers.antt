use Rattle.subtree_search.proofs.ahead.shut_at.Goals as goal

pub returns-clause-shut : goal.returns-clause-shut
returns-clause-shut c = (c.bare_node-node.ensures, c.is_closed.ensures.closed c.if-not-is_closed.false)
