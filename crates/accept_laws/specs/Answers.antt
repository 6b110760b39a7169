-- What an accepted answer proves.
use Rattle.std.specs.Prelude.{◌≡◌, ◌≢◌, ◌↔◌, ℕ, ◌<◌, List, [], length, None}
use Rattle.fapp_model.specs.declared.choice.Choice.{Choice}
use Rattle.fapp_model.specs.declared.instance.Instance.{Instance}
use Rattle.fapp_model.specs.declared.triple.Triple.{Triple}
use Rattle.fapp_model.specs.Assignments.{chosen}
use Rattle.fapp_model.specs.Costs.{cost}
use Rattle.fapp_model.specs.Instances.{IsInstance}
use Rattle.fapp_model.specs.Least.{IsFeasible, Least}
use Rattle.fapp_model.specs.Tags.{top_tag, triple_from}
use Rattle.fapp_model.specs.search.Implied.{Implied}
use Rattle.cert_lines.specs.declared.answer.Answer.{Answer}
use Rattle.cert_lines.specs.declared.answer.Verdict.{Verdict}
use Rattle.cert_lines.specs.declared.answer.Verdict.TheVariants.{Best, NoneFeasible, Open}
use Rattle.cert_lines.specs.WellFormed.{IsWellFormed}
use Rattle.cert_lines.specs.acceptance.Accepts.{Accepts}
use Rattle.cert_lines.specs.acceptance.PlanFaults.{plan_fault, shown_at}
use Rattle.cert_lines.specs.acceptance.RootFaults.{root_fault}
use Rattle.accept_laws.specs.Lines.{AreGood}

-- the plan, each line and the root have no fault
pub record HasNoFault (instance : Instance) (answer : Answer) : Type 0 where
  pub plan : plan_fault instance answer.plan answer.verdict ≡ None
  pub lines : AreGood instance answer.lines
  pub root : root_fault instance answer.verdict answer.lines ≡ None

-- An answer is accepted exactly where its plan, each line and its root have no fault.
abbrev pub AcceptsByParts : Type 0
AcceptsByParts =
    (instance : Instance) (answer : Answer) → Accepts instance answer ↔ HasNoFault instance answer

-- a shown plan is that of these choice indices, which meet the imperative records and cost so much
pub record Shows (instance : Instance) (shown : List Choice) (cost_shown : Triple)
    (plan : List ℕ) : Type 0 where
  pub whole : length shown ≡ length instance.paths
  pub chosen : (position : ℕ) → position < length instance.paths →
      chosen instance plan position ≡ shown_at shown position
  pub feasible : IsFeasible instance plan
  pub cost : cost instance plan ≡ cost_shown

-- What an answer claims is so. Best: no plan costs less than the shown one, which costs the triple.
-- NoneFeasible: no plan is feasible. Open: no plan costs less than the lower bound, and a plan is
-- shown that costs the triple, unless the triple says that none is.
abbrev pub IsRight : Instance → List Choice → Verdict → Type 0
IsRight instance shown (Best t) =
    (plan : List ℕ) × Shows instance shown t plan × Least instance plan
IsRight instance shown NoneFeasible = (plan : List ℕ) → IsFeasible instance plan → ⊥
IsRight instance shown (Open best lower level prefix) =
    Implied instance (triple_from lower.code) []
    × (best ≢ top_tag instance → (plan : List ℕ) × Shows instance shown best plan)

-- An accepted answer is right.
abbrev pub AcceptanceIsProof : Type 0
AcceptanceIsProof =
    (instance : Instance) (answer : Answer) → IsInstance instance → IsWellFormed instance answer →
    Accepts instance answer → IsRight instance answer.plan answer.verdict
