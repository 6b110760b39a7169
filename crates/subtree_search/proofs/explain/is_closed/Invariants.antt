use Rattle.std.specs.Prelude.{◌≡◌, ℕ, ◌<◌}
use Rattle.search_log.specs.GoodLines.{IsSettled}
use Rattle.subtree_search.proofs.explain.is_closed.Given as goal

-- the choices before this one are settled, and the literals are as they were
abbrev pub invariant-loop-choice : goal.invariant-loop-choice
invariant-loop-choice l = (l.forward ≡ l.fn.forward)
    × ((i : ℕ) → i < l.choice → IsSettled l.fn.forward.instance l.node.tag.code l.fn.forward.pushed l.node.path l.node.refs i)
