use Rattle.std.proofs.Common.{◌≡◌, true}
use Rattle.std.specs.List.{list_all, range_with_len}
use Rattle.fapp_model.specs.search.Partials.{literal}
use Rattle.cert_check.specs.Scenes.{excluded_by}
use Rattle.cert_check.proofs.judging.all_excluded.Given as goal

-- each choice so far
abbrev pub invariant-loop-index : goal.invariant-loop-index
invariant-loop-index l = list_all (λ index. excluded_by l.scene l.literals (literal l.path index)) (range_with_len 0 l.index) ≡ true
