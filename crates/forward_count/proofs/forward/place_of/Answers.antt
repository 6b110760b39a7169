use Rattle.std.proofs.Common.{◌∙◌, ap, arith}
use Rattle.std.proofs.lemmas.List.{get_or_default}
use Rattle.fapp_model.specs.declared.literal.Literal.{Literal}
use Rattle.fapp_model.specs.search.Partials.{literal}
use Rattle.dead_laws.proofs.Picks.{names-at}
use Rattle.forward_count.proofs.forward.place_of.Goals as goal

pub returns-clause-path : goal.returns-clause-path
returns-clause-path c =
    let found = names-at c.args.literals.now c.args.path c.requires in
    let at = found.1 in
    let same = get_or_default c.args.literals.now at.0 (literal 0 0) found.0 at.1 ∙ at.2 in
    absurd (c.loop-place.invariant at.0 (omega (arith, at.1)) (ap (λ (a : Literal). a.path) same ∙ found.2))
