use Rattle.std.proofs.Common.{ℕ, ◌<◌, List, [], ◌∷◌, ◌++◌, get_or, Contains}
use Rattle.fapp_model.specs.declared.literal.Literal.{Literal}
use Rattle.subtree_search.proofs.recall.are_within.Given as goal

-- those before this one are
abbrev pub invariant-loop-literal : goal.invariant-loop-literal
invariant-loop-literal l = (i : ℕ) (d : Literal) → i < l.literal-index → Contains (l.forward.pushed ++ l.a ∷ []) (get_or l.literals i d)
