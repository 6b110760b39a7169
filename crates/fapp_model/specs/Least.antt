-- The plans that planners want.
use Rattle.std.specs.Prelude.{ℕ, List, IsTrue}
use Rattle.fapp_model.specs.declared.instance.Instance.{Instance}
use Rattle.fapp_model.specs.Assignments.{IsAssignment, meets}
use Rattle.fapp_model.specs.Costs.{cost}
use Rattle.fapp_model.specs.Triples.{IsBelow}

-- an assignment that breaks no imperative record
pub record IsFeasible (instance : Instance) (plan : List ℕ) : Type 0 where
  pub assignment : IsAssignment instance plan
  pub met : IsTrue (meets instance plan)

-- a feasible plan such that none costs less
pub record Least (instance : Instance) (plan : List ℕ) : Type 0 where
  pub feasible : IsFeasible instance plan
  pub least : (other : List ℕ) → IsFeasible instance other →
      IsBelow (cost instance other) (cost instance plan) → ⊥
