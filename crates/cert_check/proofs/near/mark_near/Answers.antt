use Rattle.std.proofs.Common.{◌≡◌, ℕ, false, List, sym, ◌∙◌, subst, arith, All}
use Rattle.std.proofs.lemmas.List.{take_all}
use Rattle.std.proofs.lemmas.List.Elements.{All-more}
use Rattle.fapp_model.specs.declared.literal.Literal.{Literal}
use Rattle.fapp_model.specs.search.Partials.{literal}
use Rattle.cert_check.specs.RecordsNamed.{ArePlaces, record_at, touches}
use Rattle.cert_check.proofs.NearPaths.{IsClear, no-ties}
use Rattle.cert_check.proofs.Ties.{places-small}
use Rattle.cert_check.proofs.near.mark_near.Goals as goal

pub mark_ends-requires-clause-places : goal.mark_ends-requires-clause-places
mark_ends-requires-clause-places c = subst (ArePlaces c.args.scene.instance.now) (sym c.places_at.ensures) (places-small c.args.scene.instance.now _)

pub loop-a-preserved : goal.loop-a-preserved
loop-a-preserved c = record {
  whole = c.mark_ends.ensures.length ∙ c.loop-a.invariant.whole;
  clear = λ path off.
      let instance = c.args.scene.instance.now in
      let now = c.mark_ends.ensures.kept path off in
      let here = subst (All (λ (k : ℕ). touches path (record_at instance k) ≡ false)) c.places_at.ensures now.1 in
      All-more (IsClear instance path) c.args.literals.now c.loop-a.a-index (literal 0 0) c.loop-a-test.true (c.loop-a.invariant.clear path now.0) here;
}

pub returns : goal.returns
returns c = record {
  whole = c.loop-a.invariant.whole;
  apart = λ path small off.
      let whole = take_all c.loop-a.a-index c.args.literals.now (omega arith) in
      no-ties c.args.scene.instance.now c.args.literals.now path
      (subst (λ (literals : List Literal). All (IsClear c.args.scene.instance.now path) literals) whole (c.loop-a.invariant.clear path off));
}
