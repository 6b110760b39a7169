-- The answer that follows from what the workers found.
use Rattle.std.proofs.Common.{◌≡◌, ℕ, ◌<◌, ◌≤◌, List, [], length, get_or, All, None, inl, refl, sum, sum_by, sym, ap, ◌∙◌, subst, ⊎_elim, arith}
use Rattle.std.proofs.lemmas.Bool.{cases_lt}
use Rattle.std.proofs.lemmas.List.Elements.{All-nil}
use Rattle.fapp_model.specs.declared.choice.Choice.{Choice}
use Rattle.fapp_model.specs.declared.instance.Instance.{Instance}
use Rattle.fapp_model.specs.Costs.{cost}
use Rattle.fapp_model.specs.Instances.{IsInstance}
use Rattle.fapp_model.specs.Levels.{levels_of}
use Rattle.fapp_model.specs.Tags.{triple_from}
use Rattle.fapp_model.specs.search.Jobs.{job_count}
use Rattle.cert_lines.specs.declared.answer.Answer.{Answer}
use Rattle.cert_lines.specs.declared.answer.Line.{Line}
use Rattle.cert_lines.specs.declared.answer.Verdict.{Verdict}
use Rattle.cert_lines.specs.declared.answer.Verdict.TheVariants.{Best, NoneFeasible, Open}
use Rattle.cert_lines.specs.WellFormed.{IsShownChoice, IsVerdict, IsWellFormed}
use Rattle.cert_lines.specs.acceptance.Accepts.{Accepts}
use Rattle.cert_lines.specs.acceptance.PlanFaults.{plan_fault}
use Rattle.cert_lines.proofs.Deleting.{lines-in}
use Rattle.accept_laws.specs.ShownPlans.{IsWellShown, shown}
use Rattle.accept_laws.proofs.Accepting.{accepted-right}
use Rattle.accept_laws.proofs.Showing.{no-plan, well-shown}
use Rattle.search_log.specs.Contents.{KnownRow}
use Rattle.search_log.specs.LogStates.{LogState}
use Rattle.fapp_plan.specs.Outcomes.{Placed}
use Rattle.fapp_plan.specs.Plans.{split_of}
use Rattle.fapp_plan.specs.VerdictRule.{IsVerdictOf, top_code}
use Rattle.fapp_plan.proofs.Rules.{code-most, shown-is_tag}
use Rattle.merge_laws.specs.MergedLines.{IsMerged}
use Rattle.merge_laws.proofs.Merging.{answer-accepted}
use Rattle.fapp_workers.specs.Gathered.{AreSettled, IsLeastWord}
use Rattle.fapp_workers.specs.VerdictLaws.{IsEnough, IsSolvedRun}
use Rattle.fapp_workers.specs.Outcomes.{AreTicksOf}
use Rattle.fapp_workers.proofs.OpenVerdicts.{enough, open-for}
use Rattle.fapp_workers.proofs.LeastWords.{top-back, word-shown}
use Rattle.fapp_workers.specs.Works.{branches_in}
use Rattle.fapp_run.specs.Solving.{IsAnswerFor, IsClosedVerdict, IsKeptPlan, SaysOfJobs}
use Rattle.fapp_run.proofs.Joining.{lines-few}
use Rattle.fapp_run.proofs.Shown.{below-shown, top-shown}

module _ (instance : Instance) (split fuel : ℕ) (rows : List KnownRow) (logs : List LogState) (word root : ℕ) (outcomes : List Placed) (verdict : Verdict) (choices : List Choice) (lines : List Line) (ticks : List ℕ)
    (valid : IsInstance instance)
    (settled : AreSettled (split_of instance split) fuel rows logs word outcomes)
    (least : IsLeastWord instance logs word)
    (kept : IsKeptPlan instance logs (triple_from word) choices)
    (rule : IsVerdictOf instance split outcomes word root verdict)
    (formed : IsVerdict instance verdict)
    (merged : IsMerged instance split logs verdict lines)
    (counted : length ticks ≡ job_count instance split)
    (few : (id : ℕ) → id < job_count instance split → AreTicksOf (split_of instance split) fuel id (get_or ticks id 0))
    (branches : sum_by (λ (log : LogState). branches_in log.lines) logs ≤ sum ticks) where
  -- ---- the plan that is shown

  -- it has a text and no fault for the verdict
  record IsFit (v : Verdict) : Type 0 where
    pub short : length choices ≤ length instance.paths
    pub written : All IsShownChoice choices
    pub faultless : plan_fault instance choices v ≡ None

  nothing-fits : (v : Verdict) → choices ≡ [] → plan_fault instance [] v ≡ None → IsFit v
  nothing-fits v none h = record { short = omega (arith, ap length none); written = subst (All IsShownChoice) (sym none) (All-nil IsShownChoice); faultless = ap (λ cs. plan_fault instance cs v) none ∙ h }

  plan-fits : (v : Verdict) → word < top_code instance → ((plan : List ℕ) → IsWellShown instance plan → triple_from word ≡ cost instance plan → plan_fault instance (shown instance plan) v ≡ None) → IsFit v
  plan-fits v below h =
      let p = below-shown instance logs word choices valid least kept below in
      let well = well-shown instance valid p.plan p.feasible in
      record {
        short = omega (arith, well.few, ap length p.is);
        written = subst (All IsShownChoice) (sym p.is) well.choices;
        faultless = ap (λ cs. plan_fault instance cs v) p.is ∙ h p.plan well p.costs;
      }

  fits : (v : Verdict) → IsVerdictOf instance split outcomes word root v → IsFit v
  fits NoneFeasible r = nothing-fits NoneFeasible (top-shown instance logs word choices valid least kept r.0) (no-plan.none instance)
  fits (Best t) r = plan-fits (Best t) r.0 (λ plan well costs. subst (λ u. plan_fault instance (shown instance plan) (Best u) ≡ None) (sym costs ∙ sym r.2) well.best)
  fits (Open best lower level prefix) r = ⊎_elim
      (λ below. plan-fits (Open best lower level prefix) below (λ plan well costs. subst (λ u. plan_fault instance (shown instance plan) (Open u lower level prefix) ≡ None) (sym costs ∙ sym r.shown) (well.open_at lower level prefix)))
      (λ high.
      let most : word ≤ top_code instance = word-most in
      let top : word ≡ top_code instance = omega (arith, high, most) in
      nothing-fits (Open best lower level prefix) (top-shown instance logs word choices valid least kept top)
      (subst (λ u. plan_fault instance [] (Open u lower level prefix) ≡ None) (sym (top-back instance) ∙ (ap triple_from (sym top) ∙ sym r.shown)) (no-plan.open_at instance lower level prefix)))
      (cases_lt word (top_code instance))
    where
      word-most : word ≤ top_code instance
      word-most = code-most instance word (shown-is_tag (levels_of instance) (triple_from word) (word-shown instance logs word valid least))

  -- ---- the whole

  answer : Answer
  answer = record { plan = choices; verdict = verdict; version = 1; lines = lines }

  fit : IsFit verdict
  fit = fits verdict rule

  is-formed : IsWellFormed instance (record { plan = choices; verdict = verdict; version = 1; lines = lines })
  is-formed = record { plan = fit.short; choices = fit.written; verdict = formed; version = inl refl; lines = lines-in 1 instance lines merged.formed }

  is-accepted : Accepts instance (record { plan = choices; verdict = verdict; version = 1; lines = lines })
  is-accepted = answer-accepted instance split logs (record { plan = choices; verdict = verdict; version = 1; lines = lines }) fit.faultless merged

  solved : (v : Verdict) → IsVerdictOf instance split outcomes word root v → IsSolvedRun (split_of instance split) fuel rows logs word root outcomes v
  solved v r = record { valid = valid; shown = word-shown instance logs word valid least; settled = settled; least = least; ruled = r }

  says : (v : Verdict) → IsVerdictOf instance split outcomes word root v → SaysOfJobs (split_of instance split) fuel v
  says (Best t) r = tt
  says NoneFeasible r = tt
  says (Open best lower level prefix) r = open-for (split_of instance split) fuel rows logs word root outcomes best lower level prefix (solved (Open best lower level prefix) r)

  closes : IsEnough (split_of instance split) fuel → (v : Verdict) → IsVerdictOf instance split outcomes word root v → IsClosedVerdict v
  closes e (Best t) r = tt
  closes e NoneFeasible r = tt
  closes e (Open best lower level prefix) r = enough (split_of instance split) fuel rows logs word root outcomes best lower level prefix (solved (Open best lower level prefix) r) e

  pub answer-for : IsAnswerFor instance split fuel (record { plan = choices; verdict = verdict; version = 1; lines = lines })
  answer-for = record {
    formed = is-formed;
    version = refl;
    accepted = is-accepted;
    right = accepted-right instance (record { plan = choices; verdict = verdict; version = 1; lines = lines }) valid is-formed is-accepted;
    jobs = says verdict rule;
    few = λ most m. lines-few (split_of instance split) fuel logs ticks (length lines) most counted few branches merged.few m;
    bare = merged.bare;
    enough = λ e. closes e verdict rule;
  }
