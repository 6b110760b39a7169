use Rattle.std.proofs.Common.{length, ap, sym, ◌∙◌, subst, arith}
use Rattle.fapp_model.specs.search.Weights.{bad_before, bad_further}
use Rattle.cert_check.specs.RecordsNamed.{ArePlaces}
use Rattle.cert_check.proofs.Ties.{clashes_with-at, row-at, ties-small, ties-few}
use Rattle.cert_check.proofs.judging.own_row.Goals as goal

pub clashes_with-requires-clause-places : goal.clashes_with-requires-clause-places
clashes_with-requires-clause-places c =
    subst (ArePlaces c.args.scene.instance.now) (sym (c.as_slice-places.ensures.value ∙ c.in_ok-ties.ensures)) (ties-small c.args.scene.instance.now c.args.literals.now c.args.a.path)

pub row-requires-clause-few : goal.row-requires-clause-few
row-requires-clause-few c = omega (arith, ap length (c.as_slice-places.ensures.value ∙ c.in_ok-ties.ensures), ties-few c.args.scene.instance.now c.args.literals.now c.args.a.path, c.requires.scene.instance.few_records)

pub row-requires-clause-places : goal.row-requires-clause-places
row-requires-clause-places c =
    subst (ArePlaces c.args.scene.instance.now) (sym (c.as_slice-places.ensures.value ∙ c.in_ok-ties.ensures)) (ties-small c.args.scene.instance.now c.args.literals.now c.args.a.path)

pub returns-then-clashes_with : goal.returns-then-clashes_with
returns-then-clashes_with c =
    sym (clashes_with-at c.args.scene.instance.now c.args.literals.now c.args.a c.args.scene.level c.as_slice-places.result.now (c.as_slice-places.ensures.value ∙ c.in_ok-ties.ensures))
    ∙ (sym c.clashes_with.ensures ∙ c.if-clashes_with.true)

pub returns : goal.returns
returns c =
    let ties = c.as_slice-places.ensures.value ∙ c.in_ok-ties.ensures in
    let instance = c.args.scene.instance.now in
    let level = c.args.scene.level in
    let literals = c.args.literals.now in (
      sym (clashes_with-at instance literals c.args.a level c.as_slice-places.result.now ties) ∙ (sym c.clashes_with.ensures ∙ c.if-clashes_with.false),
      c.row.ensures.v ∙ row-at instance literals c.args.a (bad_before level) c.as_slice-places.result.now ties,
      c.row.ensures.s ∙ row-at instance literals c.args.a (bad_further level) c.as_slice-places.result.now ties,
      omega arith,
      omega arith,
    )
