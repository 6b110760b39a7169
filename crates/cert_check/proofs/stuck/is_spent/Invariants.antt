use Rattle.std.proofs.Common.{◌≡◌, false}
use Rattle.std.specs.List.{list_any, range_with_len}
use Rattle.cert_check.specs.Scenes.{excluded_by}
use Rattle.cert_check.proofs.Spent.{kept}
use Rattle.cert_check.proofs.stuck.is_spent.Given as goal

-- none of the choices so far
abbrev pub invariant-loop-index : goal.invariant-loop-index
invariant-loop-index l = list_any (kept (excluded_by l.scene l.literals) l.scene.instance.now l.scene.level l.literals l.path) (range_with_len 0 l.index) ≡ false
