use Rattle.std.specs.Prelude.{◌≡◌}
use Rattle.subtree_search.proofs.ahead.shut_behind.Given as goal

-- the literals are as they were
abbrev pub invariant-loop-later : goal.invariant-loop-later
invariant-loop-later l = l.forward ≡ l.fn.forward
