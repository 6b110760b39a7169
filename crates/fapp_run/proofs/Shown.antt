-- The plan that is shown.
use Rattle.std.proofs.Common.{◌≡◌, ◌≢◌, ℕ, ◌+◌, ◌<◌, ◌≤◌, List, [], length, get_or, Some, sym, ap, ◌∙◌, subst, inl, inr, ⊎_elim, arith}
use Rattle.std.proofs.lemmas.Bool.{cases_lt}
use Rattle.std.proofs.lemmas.List.{get_or_default}
use Rattle.std.proofs.lemmas.List.Elements.{All-contains}
use Rattle.fapp_model.specs.declared.choice.Choice.{Choice}
use Rattle.fapp_model.specs.declared.instance.Instance.{Instance}
use Rattle.fapp_model.specs.declared.triple.Triple.{Triple}
use Rattle.fapp_model.specs.Costs.{cost}
use Rattle.fapp_model.specs.Instances.{IsInstance}
use Rattle.fapp_model.specs.Least.{IsFeasible}
use Rattle.fapp_model.specs.Tags.{code_of, triple_from}
use Rattle.search_log.specs.declared.log.KeptPlan.{KeptPlan}
use Rattle.search_log.specs.LogStates.{LogState}
use Rattle.settle_laws.specs.Worlds.{IsKeptRight}
use Rattle.settle_laws.proofs.FullPrefixes.{cost-back}
use Rattle.settle_laws.proofs.TagCodes.{code-back}
use Rattle.fapp_plan.specs.VerdictRule.{top_code}
use Rattle.fapp_workers.specs.Gathered.{IsLeastWord, KeepsCost}
use Rattle.fapp_workers.proofs.LeastWords.{cost-level}
use Rattle.accept_laws.specs.ShownPlans.{shown}
use Rattle.fapp_run.specs.Solving.{IsKeptPlan, NoneKept}

-- none of the first so many logs keeps an assignment of that cost
abbrev pub NoneKeptTo : List LogState → ℕ → Triple → Type 0
NoneKeptTo logs count t = (i : ℕ) (d : LogState) → i < count → (best : KeptPlan) → (get_or logs i d).best ≡ Some best → best.cost ≢ t

pub none-yet : (logs : List LogState) (t : Triple) → NoneKeptTo logs 0 t
none-yet logs t i d less = absurd (omega (arith, less))

pub none-more : (logs : List LogState) (count : ℕ) (t : Triple) (d : LogState) → count < length logs → ((best : KeptPlan) → (get_or logs count d).best ≡ Some best → best.cost ≢ t) → NoneKeptTo logs count t → NoneKeptTo logs (count + 1) t
none-more logs count t d inside here before i e less = elim (cases_lt i count) [
  | inl low ↦ before i e low
  | inr high ↦
      let same : i ≡ count = omega (arith, less, high) in
      let at : get_or logs i e ≡ get_or logs count d = ap (λ n. get_or logs n e) same ∙ get_or_default logs count e d inside in
      λ best kept. here best (ap (λ (l : LogState). l.best) (sym at) ∙ kept)
]

pub none-all : (logs : List LogState) (count : ℕ) (t : Triple) → length logs ≤ count → NoneKeptTo logs count t → NoneKept logs t
none-all logs count t whole none = λ k d less. none k d (omega (arith, less, whole))

-- ---- the plan for the least word

module _ (instance : Instance) (logs : List LogState) (word : ℕ) (choices : List Choice) (valid : IsInstance instance) (least : IsLeastWord instance logs word) (kept : IsKeptPlan instance logs (triple_from word) choices) where
  -- a plan that is shown costs the word
  pub record IsWordPlan : Type 0 where
    pub plan : List ℕ
    pub feasible : IsFeasible instance plan
    pub costs : triple_from word ≡ cost instance plan
    pub is : choices ≡ shown instance plan

  kept-cost : (k : KeepsCost logs word) → triple_from word ≡ k.best.cost
  kept-cost k =
      let right : IsKeptRight instance (Some k.best) = subst (IsKeptRight instance) k.kept (All-contains (λ (log : LogState). IsKeptRight instance log.best) logs k.log least.right k.among) in
      ap triple_from (k.cost ∙ ap code_of right.1) ∙ (cost-back instance k.best.plan valid ∙ sym right.1)

  pub below-shown : word < top_code instance → IsWordPlan
  below-shown below = ⊎_elim
      (λ none. ⊎_elim
      (λ top. absurd (omega (arith, top.0, below)))
      (λ (k : KeepsCost logs word).
      let none_there = All-contains (λ (log : LogState). (best : KeptPlan) → log.best ≡ Some best → best.cost ≢ triple_from word) logs k.log none.1 k.among in
      absurd (none_there k.best k.kept (sym (kept-cost k))))
      least.is)
      (λ some. record { plan = some.0; feasible = some.1; costs = some.2; is = some.3 })
      kept

  pub top-shown : word ≡ top_code instance → choices ≡ []
  top-shown top = ⊎_elim
      (λ none. none.0)
      (λ some. absurd (omega (arith, top, ap code_of some.2, code-back word, (cost-level instance some.0 valid).below_top)))
      kept
