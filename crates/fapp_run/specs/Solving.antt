-- What is answered to an instance.
use Rattle.std.specs.Prelude.{◌≡◌, ◌≢◌, ◌⊎◌, ℕ, ◌≤◌, List, [], length, All, Some}
use Rattle.fapp_model.specs.declared.choice.Choice.{Choice}
use Rattle.fapp_model.specs.declared.instance.Instance.{Instance}
use Rattle.fapp_model.specs.declared.triple.Triple.{Triple}
use Rattle.fapp_model.specs.Costs.{cost}
use Rattle.fapp_model.specs.Least.{IsFeasible}
use Rattle.fapp_model.specs.search.LineBound.{IsMostLines}
use Rattle.cert_lines.specs.declared.answer.Answer.{Answer}
use Rattle.cert_lines.specs.declared.answer.Verdict.{Verdict}
use Rattle.cert_lines.specs.declared.answer.Verdict.TheVariants.{Best, NoneFeasible, Open}
use Rattle.cert_lines.specs.WellFormed.{IsWellFormed}
use Rattle.cert_lines.specs.acceptance.Accepts.{Accepts}
use Rattle.accept_laws.specs.Answers.{IsRight}
use Rattle.search_log.specs.declared.log.KeptPlan.{KeptPlan}
use Rattle.search_log.specs.LogStates.{LogState}
use Rattle.fapp_plan.specs.Plans.{Split, split_of}
use Rattle.merge_laws.specs.MergedLines.{HasNoCite}
use Rattle.fapp_workers.specs.VerdictLaws.{IsEnough, IsOpenFor}
use Rattle.accept_laws.specs.ShownPlans.{shown}

-- what an open verdict says of the jobs
abbrev pub SaysOfJobs : Split → ℕ → Verdict → Type 0
SaysOfJobs split fuel (Best t) = Unit {0}
SaysOfJobs split fuel NoneFeasible = Unit {0}
SaysOfJobs split fuel (Open best lower level prefix) = IsOpenFor split fuel best lower level prefix

-- the verdict is not open
abbrev pub IsClosedVerdict : Verdict → Type 0
IsClosedVerdict (Best t) = Unit {0}
IsClosedVerdict NoneFeasible = Unit {0}
IsClosedVerdict (Open best lower level prefix) = ⊥

-- The answer has no Delete line. It is accepted by definition, and so it is right: Best comes with
-- a least plan and its cost, NoneFeasible only where no plan meets the imperative records. An open
-- verdict names a job that has more tries than its fuel, and says no less than the jobs give that
-- have tries within theirs. The lines are no more than the bound, and one of the tag (0, 0, 0)
-- cites nothing. With fuel enough for one level the verdict is not open.
pub record IsAnswerFor (instance : Instance) (split fuel : ℕ) (answer : Answer) : Type 0 where
  pub formed : IsWellFormed instance answer
  pub version : answer.version ≡ 1
  pub accepted : Accepts instance answer
  pub right : IsRight instance answer.plan answer.verdict
  pub jobs : SaysOfJobs (split_of instance split) fuel answer.verdict
  pub few : (most : ℕ) → IsMostLines instance fuel split most → length answer.lines ≤ most
  pub bare : All (λ line. line.tag.code ≡ 0 → HasNoCite line.rule) answer.lines
  pub enough : IsEnough (split_of instance split) fuel → IsClosedVerdict answer.verdict

-- no log keeps an assignment of that cost
abbrev pub NoneKept : List LogState → Triple → Type 0
NoneKept logs t = All (λ log. (best : KeptPlan) → log.best ≡ Some best → best.cost ≢ t) logs

-- the choices of a feasible assignment of that cost, or none where no log keeps one
abbrev pub IsKeptPlan : Instance → List LogState → Triple → List Choice → Type 0
IsKeptPlan instance logs t choices = ((choices ≡ []) × NoneKept logs t)
    ⊎ ((plan : List ℕ) × IsFeasible instance plan × (t ≡ cost instance plan)
    × (choices ≡ shown instance plan))
