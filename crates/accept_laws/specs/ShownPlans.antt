-- Plans as answers show them.
use Rattle.std.specs.Prelude.{◌≡◌, ℕ, ◌≤◌, List, [], length, map, All, None}
use Rattle.std.specs.List.{range_with_len}
use Rattle.fapp_model.specs.declared.choice.Choice.{Choice}
use Rattle.fapp_model.specs.declared.instance.Instance.{Instance}
use Rattle.fapp_model.specs.declared.literal.Literal.{Literal}
use Rattle.fapp_model.specs.declared.tag.Tag.{Tag}
use Rattle.fapp_model.specs.Assignments.{chosen}
use Rattle.fapp_model.specs.Costs.{cost}
use Rattle.fapp_model.specs.Instances.{IsInstance}
use Rattle.fapp_model.specs.Least.{IsFeasible}
use Rattle.fapp_model.specs.Tags.{top_tag}
use Rattle.cert_lines.specs.declared.answer.Verdict.TheVariants.{Best, NoneFeasible, Open}
use Rattle.cert_lines.specs.WellFormed.{IsShownChoice}
use Rattle.cert_lines.specs.acceptance.PlanFaults.{plan_fault}

-- what a plan chooses for each path, in order
abbrev pub shown : Instance → List ℕ → List Choice
shown instance plan = map (chosen instance plan) (range_with_len 0 (length plan))

-- a shown plan has a text, and no fault where the verdict states its cost
pub record IsWellShown (instance : Instance) (plan : List ℕ) : Type 0 where
  pub few : length (shown instance plan) ≤ length instance.paths
  pub choices : All IsShownChoice (shown instance plan)
  pub best : plan_fault instance (shown instance plan) (Best (cost instance plan)) ≡ None
  pub open_at : (lower : Tag) (level : ℕ) (prefix : List Literal) →
      plan_fault instance (shown instance plan) (Open (cost instance plan) lower level prefix)
      ≡ None

-- A feasible plan is well shown.
abbrev pub FeasiblePlansAreWellShown : Type 0
FeasiblePlansAreWellShown =
    (instance : Instance) (plan : List ℕ) → IsInstance instance → IsFeasible instance plan →
    IsWellShown instance plan

-- No plan has no fault where the verdict shows none.
pub record NoPlanHasNoFault : Type 0 where
  pub none : (instance : Instance) → plan_fault instance [] NoneFeasible ≡ None
  pub open_at : (instance : Instance) (lower : Tag) (level : ℕ) (prefix : List Literal) →
      plan_fault instance [] (Open (top_tag instance) lower level prefix) ≡ None
