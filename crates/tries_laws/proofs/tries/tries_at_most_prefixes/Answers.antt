use Rattle.std.proofs.Common.{length, drop, ◌++◌, arith}
use Rattle.std.proofs.lemmas.List.{length-map}
use Rattle.fapp_model.specs.search.Dead.{Dead}
use Rattle.fapp_model.specs.search.Prefixes.{lists_along}
use Rattle.fapp_model.specs.search.WorkOrder.{work_order}
use Rattle.tries_laws.proofs.TriesParts.{tries-le}
use Rattle.tries_laws.proofs.tries.tries_at_most_prefixes.Goals as goal

pub returns : goal.returns
returns c = λ instance t prefix n tries.
    let rest = drop (length prefix) (work_order instance) in
    omega (arith, tries-le instance (Dead instance t) rest prefix n tries, length-map (lists_along instance rest) (λ more. prefix ++ more))
