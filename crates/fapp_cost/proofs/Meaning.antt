-- What a cost says.
use Rattle.std.proofs.Common.{◌≡◌, ◌⊎◌, ℕ, suc, ◌-◌, ◌<◌, List, ap, sym, ◌∙◌, inl, inr, arith}
use Rattle.fapp_model.specs.declared.instance.Instance.{Instance}
use Rattle.fapp_model.specs.Levels.{levels_of}
use Rattle.fapp_model.proofs.ClearLevels.{at-clear, before-clear, clear-le}
use Rattle.fapp_model.proofs.Violations.{violations-falling}
use Rattle.fapp_model.specs.Costs.{cost_by, cost, violations, sum_under, count_below}
use Rattle.fapp_model.specs.Instances.{IsInstance}
use Rattle.fapp_model.specs.declared.triple.Triple.{Triple}
use Rattle.fapp_model.specs.Triples.{IsBelow}
use Rattle.fapp_cost.specs.CostLaws.{HasLeastClearLevel, HasFewer}

pub level_meaning : (instance : Instance) (plan : List ℕ) → IsInstance instance → HasLeastClearLevel instance plan
unfolding cost_by
level_meaning instance plan valid =
    let levels = levels_of instance in
    let count = violations instance plan in
    record {
      clear = at-clear levels count (violations-falling instance plan valid).ends;
      least = before-clear levels count;
      within = clear-le levels count;
    }

parts : (levels : ℕ) (count : ℕ → ℕ) (level : ℕ) → (cost_by levels count).k ≡ suc level → ((cost_by levels count).v ≡ count level) × ((cost_by levels count).s ≡ sum_under count level)
unfolding cost_by
parts levels count level e =
    let one_less : suc level - 1 ≡ level = omega arith in
    (ap (count_below count) e, ap (λ k. sum_under count (k - 1)) e ∙ ap (sum_under count) one_less)

-- triples of one level are compared by what they have beside it
order : (t u : Triple) (v w s z : ℕ) → t.k ≡ u.k → t.v ≡ v → u.v ≡ w → t.s ≡ s → u.s ≡ z →
    (IsBelow t u → (v < w) ⊎ ((v ≡ w) × (s < z))) × ((v < w) ⊎ ((v ≡ w) × (s < z)) → IsBelow t u)
order t u v w s z k tv uv ts us = (to, from) where
  to : IsBelow t u → (v < w) ⊎ ((v ≡ w) × (s < z))
  to (inl below) = absurd (omega arith)
  to (inr (same, inl below)) = inl (omega arith)
  to (inr (same, inr (as_many, below))) = inr (omega arith, omega arith)

  from : (v < w) ⊎ ((v ≡ w) × (s < z)) → IsBelow t u
  from (inl below) = inr (k, inl (omega arith))
  from (inr (as_many, below)) = inr (k, inr (omega arith, omega arith))

-- the two sides of the law, at triples of one level
pub decided : (instance : Instance) (a b : List ℕ) (level : ℕ) → (cost instance a).k ≡ suc level → (cost instance b).k ≡ suc level →
    (IsBelow (cost instance a) (cost instance b) → HasFewer instance level a b) × (HasFewer instance level a b → IsBelow (cost instance a) (cost instance b))
decided instance a b level ka kb =
    let pa = parts (levels_of instance) (violations instance a) level ka in
    let pb = parts (levels_of instance) (violations instance b) level kb in
    order (cost instance a) (cost instance b) _ _ _ _ (ka ∙ sym kb) pa.0 pb.0 pa.1 pb.1
