-- Assignments that are tested place by place.
use Rattle.std.proofs.Common.{◌≡◌, ◌⊎◌, inl, inr, ℕ, ◌+◌, ◌<◌, ◌≤◌, is_some, true, List, length, get_or, Option, Some, None, sym, ap, ◌∙◌, subst, arith}
use Rattle.std.specs.Prelude.{slice_index}
use Rattle.std.proofs.lemmas.Bool.{cases_lt}
use Rattle.std.proofs.lemmas.List.{get_or_default}
use Rattle.fapp_model.specs.declared.instance.Instance.{Instance}
use Rattle.fapp_model.specs.declared.instance.Path.{Path}
use Rattle.fapp_model.specs.declared.triple.Triple.{Triple}
use Rattle.fapp_model.specs.Assignments.{IsAssignment, count_at, no_path}
use Rattle.fapp_model.specs.Choices.{choices}
use Rattle.fapp_model.specs.Least.{IsFeasible}
use Rattle.fapp_cost.specs.PlanCost.{IsCostOf}

pub more-in-range : (instance : Instance) (plan : List ℕ) (n : ℕ) (paths : List Path) (path : Path) (index count : ℕ) → n < length paths → paths ≡ instance.paths → path ≡ get_or paths n path → count ≡ length (choices path) → index ≡ slice_index plan n → index < count →
    ((p : ℕ) → p < n → slice_index plan p < count_at instance p) → (p : ℕ) → p < n + 1 → slice_index plan p < count_at instance p
more-in-range instance plan n paths path index count inside are is counted read less before p low = at (cases_lt p n)
  where
    here : length (choices path) ≡ count_at instance n
    here = ap (λ (x : Path). length (choices x)) (is ∙ (get_or_default paths n path no_path inside ∙ ap (λ (ps : List Path). get_or ps n no_path) are))

    at : (p < n) ⊎ (n ≤ p) → slice_index plan p < count_at instance p
    at (inl early) = before p early
    at (inr late) = subst (λ k. slice_index plan k < count_at instance k) (let e : n ≡ p = omega (arith, low, late) in e) (omega (arith, here, counted, read, less))

pub feasible-by : (instance : Instance) (plan : List ℕ) (found : Option Triple) → IsAssignment instance plan → IsCostOf instance plan found → is_some found ≡ true → IsFeasible instance plan
feasible-by instance plan None whole h some = absurd (cc)
feasible-by instance plan (Some t) whole h some = record { assignment = whole; met = h.0 }
