use Rattle.std.proofs.Common.{ℕ, length, ap, sym, ◌∙◌, subst, arith}
use Rattle.fapp_model.specs.search.Pairs.{Pair}
use Rattle.fapp_model.specs.search.Weights.{bad_before, bad_further}
use Rattle.cert_check.specs.RecordsNamed.{ArePlaces}
use Rattle.cert_check.proofs.Ties.{added-at, ties-small, ties-few}
use Rattle.cert_check.proofs.least.added_to.Goals as goal

abbrev pair : ℕ → ℕ → Pair
pair v s = record { v = v; s = s }

pub added-requires-clause-places : goal.added-requires-clause-places
added-requires-clause-places c = subst (ArePlaces c.args.scene.instance.now) (sym c.requires.ties) (ties-small c.args.scene.instance.now c.args.literals.now c.args.a.path)

pub added-requires-clause-few : goal.added-requires-clause-few
added-requires-clause-few c = omega (arith, ap length c.requires.ties, ties-few c.args.scene.instance.now c.args.literals.now c.args.a.path, c.requires.scene.instance.few_records)

pub returns-clause-pair : goal.returns-clause-pair
returns-clause-pair c =
    let instance = c.args.scene.instance.now in
    let level = c.args.scene.level in
    let v = c.added.ensures.v ∙ added-at instance c.args.literals.now c.args.a (bad_before level) c.args.ties.now c.requires.ties in
    let s = c.added.ensures.s ∙ added-at instance c.args.literals.now c.args.a (bad_further level) c.args.ties.now c.requires.ties in
    ap (λ (n : ℕ). pair n c.added.result.s) v ∙ ap (pair _) s
