use Rattle.settle_laws.specs.RowLines.{AreAll}
use Rattle.subtree_search.proofs.by_row.all_refs.Given as goal

-- the choices before this one have it
abbrev pub invariant-loop-index : goal.invariant-loop-index
invariant-loop-index l = AreAll l.index l.line l.refs.items
