use Rattle.std.proofs.Common.{◌≡◌, false, take}
use Rattle.fapp_model.specs.search.Partials.{names}
use Rattle.cert_check.proofs.least.names.Given as goal

-- none of the literals so far
abbrev pub invariant-loop-a : goal.invariant-loop-a
invariant-loop-a l = names (take l.a-index l.literals) l.path ≡ false
