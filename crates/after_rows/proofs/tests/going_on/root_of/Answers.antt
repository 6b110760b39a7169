use Rattle.std.proofs.Common.{sym, subst, ◌∙◌}
use Rattle.fapp_model.specs.Tags.{IsTagOf, triple_from}
use Rattle.merge_laws.specs.OldRoots.{code_or_zero}
use Rattle.merge_laws.proofs.Merging.{own-root}
use Rattle.after_rows.proofs.tests.going_on.root_of.Goals as goal

pub returns-in-Some-clause-tag : goal.returns-in-Some-clause-tag
returns-in-Some-clause-tag c =
    subst (λ found. IsTagOf c.args.arcs.now (triple_from (code_or_zero found))) (sym c.root_tag.ensures ∙ c.in-Some.is) (own-root c.args.arcs.now c.args.old.now c.requires.formed)
