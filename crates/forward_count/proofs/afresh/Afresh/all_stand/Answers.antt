use Rattle.std.proofs.Common.{ℕ, ap, arith, get_or, inl, inr, length, refl, subst, sym}
use Rattle.std.proofs.lemmas.Bool.{cases_eq, cases_lt}
use Rattle.std.proofs.lemmas.List.{get_or_default}
use Rattle.fapp_model.specs.declared.literal.Literal.{Literal}
use Rattle.fapp_model.specs.search.Partials.{literal}
use Rattle.choice_counts.specs.CountedSums.{RemainsAt}
use Rattle.choice_counts.specs.ForwardStates.{ForwardState}
use Rattle.forward_count.proofs.afresh.Afresh.all_stand.Goals as goal

pub loop-index-preserved : goal.loop-index-preserved
loop-index-preserved c k below =
    let st = c.args.self.now in
    let index = c.loop-index.index in
    elim (cases_eq k index) [
      | inl same ↦ subst (λ (j : ℕ). RemainsAt st.instance st.level st.pushed (get_or st.pushed j (literal 0 0))) (sym same)
          (subst (λ (s : ForwardState). RemainsAt st.instance st.level st.pushed (get_or s.pushed index (literal 0 0))) c.self.view_is (c.stands.ensures.0 c.if-not-stands.false))
      | inr other ↦ c.loop-index.invariant k (elim (cases_lt k index) [ inl less ↦ less | inr more ↦ absurd (other (omega arith)) ])
    ]

pub returns : goal.returns
returns c =
    let st = c.args.self.now in (
      λ _ k d inside. subst (λ (a : Literal). RemainsAt st.instance st.level st.pushed a) (get_or_default st.pushed k (literal 0 0) d inside)
          (c.loop-index.invariant k (omega (arith, inside, ap (λ (s : ForwardState). length s.pushed) c.self.view_is, c.loop-index-test.false))),
      λ _. refl,
    )
