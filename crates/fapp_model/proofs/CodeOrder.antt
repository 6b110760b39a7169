-- Codes of tags are ordered as the tags.
use Rattle.std.proofs.Common.{◌≡◌, ◌⊎◌, ℕ, ◌/◌, ◌%◌, ◌<◌, inl, inr, arith, ap, ◌≤◌}
use Rattle.std.proofs.lemmas.Bool.{cases_order, cases_lt}
use Rattle.fapp_model.specs.declared.limits.TheConstants.{S_SPAN}
use Rattle.fapp_model.specs.Tags.{triple_from}
use Rattle.fapp_model.specs.Triples.{IsBelow, IsAtMost}

-- quotients and remainders of a lesser number
pub parts-below : (t u : ℕ) → t < u → (t / S_SPAN < u / S_SPAN) ⊎ ((t / S_SPAN ≡ u / S_SPAN) × (t % S_SPAN < u % S_SPAN))
parts-below t u h =
    elim (cases_order (t / S_SPAN) (u / S_SPAN)) [
      | inl same ↦ inr (same, omega arith)
      | inr (inl less) ↦ inl less
      | inr (inr more) ↦ absurd (omega arith)
    ]

pub below-codes : (t u : ℕ) → t < u → IsBelow (triple_from t) (triple_from u)
below-codes t u h =
    elim (parts-below t u h) [
      | inl less ↦ elim (parts-below (t / S_SPAN) (u / S_SPAN) less) [
        | inl k ↦ inl k
        | inr (k, v) ↦ inr (k, inl v)
      ]
      | inr (same, s) ↦ inr (ap (λ (q : ℕ). q / S_SPAN) same, inr (ap (λ (q : ℕ). q % S_SPAN) same, s))
    ]

pub codes-at_most : (t u : ℕ) → t ≤ u → IsAtMost (triple_from t) (triple_from u)
codes-at_most t u h = elim (cases_lt t u) [ inl less ↦ inl (below-codes t u less) | inr more ↦ let same : t ≡ u = omega arith in inr (ap triple_from same) ]
