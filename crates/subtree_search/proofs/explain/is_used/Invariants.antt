use Rattle.std.proofs.Common.{ℕ, ◌<◌, get_or}
use Rattle.search_log.specs.declared.line.ChoiceRef.{ChoiceRef}
use Rattle.subtree_search.specs.Explaining.{IsOffPath}
use Rattle.subtree_search.proofs.explain.is_used.Given as goal

-- those before this one don't
abbrev pub invariant-loop-r : goal.invariant-loop-r
invariant-loop-r l = (i : ℕ) (d : ChoiceRef) → i < l.r-index → IsOffPath l.seen.cites.items l.log.lines l.path (get_or l.refs i d).line
