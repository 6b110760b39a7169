use Rattle.std.proofs.Common.{◌≡◌, ◌++◌, ◌+◌, ◌*◌, [], ◌∷◌, map, codes, flat_map}
use Rattle.std.specs.List.{range_with_len}
use Rattle.fapp_gen.specs.Lines.{line_text, numbered}
use Rattle.fapp_gen.proofs.network.push_domain.Given as goal

abbrev pub invariant-loop-place : goal.invariant-loop-place
invariant-loop-place l = l.out.items ≡ l.fn.out.items ++ flat_map line_text (map (λ place. numbered (codes "DM") (l.fn.domain ∷ (l.fn.first + 10 * place) ∷ [])) (range_with_len 0 l.place))
