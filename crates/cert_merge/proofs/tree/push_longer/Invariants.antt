use Rattle.std.proofs.Common.{◌≡◌, [], ◌∷◌, ◌++◌, map}
use Rattle.std.specs.List.{range_with_len}
use Rattle.fapp_model.specs.search.Partials.{literal}
use Rattle.cert_merge.proofs.tree.push_longer.Given as goal

abbrev pub invariant-loop-index : goal.invariant-loop-index
invariant-loop-index l = l.lists.items ≡ l.fn.lists.items ++ map (λ index. l.list ++ literal l.step.path index ∷ []) (range_with_len 0 l.index)
