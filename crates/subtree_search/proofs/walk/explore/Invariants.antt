use Rattle.std.specs.Prelude.{◌↔◌}
use Rattle.fapp_model.specs.declared.instance.Instance.{Instance}
use Rattle.settle_laws.specs.Explained.{AreCitesCopied}
use Rattle.settle_laws.specs.Worlds.{world}
use Rattle.subtree_search.specs.Walks.{work_left}
use Rattle.subtree_search.proofs.Exploring.{Exploring}
use Rattle.subtree_search.proofs.walk.explore.Given as goal

-- the innermost node's choices before its own were tried, and the rows serve the same instances
abbrev pub invariant-loop-found : goal.invariant-loop-found
invariant-loop-found g l = record {
  bound : (was : g.row.B.Denot) → g.B.Bound.since was l.fn.bound → g.B.Bound.since was l.bound;
  shared : (was : g.row.H.Denot) → g.H.Shared.since was l.fn.shared → g.H.Shared.since was l.shared;
  serves : (instance : Instance) → g.H.Shared.serves l.fn.shared instance ↔ g.H.Shared.serves l.shared instance;
  held : AreCitesCopied (g.H.Shared.state l.shared).copied l.walk.seen.cites.items;
  exploring : Exploring l.fn.forward l.forward l.fn.walk.level
      (world l.fn.fuel (g.B.Bound.state l.fn.bound) (g.H.Shared.state l.fn.shared) l.fn.log)
      (world l.fuel (g.B.Bound.state l.bound) (g.H.Shared.state l.shared) l.log) l.walk;
}

abbrev pub decreases-loop-found : goal.decreases-loop-found
decreases-loop-found g l = work_left l.fuel l.walk.nodes.items
