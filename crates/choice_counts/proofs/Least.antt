-- The least of some tallies.
use Rattle.std.proofs.Common.{◌≡◌, ◌⊎◌, ℕ, zero, suc, ◌<◌, ◌≤◌, min, List, [], ◌∷◌, ◌++◌, length, refl, sym, ap, ◌∙◌, inl, inr, arith}
use Rattle.std.specs.List.{fold}
use Rattle.std.proofs.lemmas.Bool.{cases_lt}
use Rattle.std.proofs.lemmas.List.Sums.{fold_push}
use Rattle.choice_counts.specs.declared.rows.TheConstants.{NO_TALLY}
use Rattle.choice_counts.specs.Tallies.{least_of_tallies, tally_at}

fold_falls : (tallies : List ℕ) (m : ℕ) → fold min m tallies ≤ m
fold_falls [] m = omega arith
fold_falls (w ∷ tallies) m = omega (arith, fold_falls tallies (min m w))

fold_below : (tallies : List ℕ) (m k : ℕ) → k < length tallies → fold min m tallies ≤ tally_at tallies k
fold_below [] m k inside = absurd (omega arith)
fold_below (w ∷ tallies) m zero inside = omega (arith, fold_falls tallies (min m w))
fold_below (w ∷ tallies) m (suc k) inside = fold_below tallies (min m w) k (omega arith)

-- a tally that is the least
pub record Reached (tallies : List ℕ) (least : ℕ) : Type 0 where
  pub index : ℕ
  pub inside : index < length tallies
  pub is : tally_at tallies index ≡ least

min_is : (m w : ℕ) → (min m w ≡ m) ⊎ (w ≡ min m w)
min_is m w = elim (cases_lt w m) [ inl less ↦ inr (omega arith) | inr more ↦ inl (omega arith) ]

fold_reached : (tallies : List ℕ) (m : ℕ) → (fold min m tallies ≡ m) ⊎ Reached tallies (fold min m tallies)
fold_reached [] m = inl refl
fold_reached (w ∷ tallies) m = elim (fold_reached tallies (min m w)) [
  | inr later ↦ inr (record { index = suc later.index; inside = omega (arith, later.inside); is = later.is })
  | inl same ↦ elim (min_is m w) [
    | inl kept ↦ inl (same ∙ kept)
    | inr here ↦ inr (record { index = 0; inside = omega arith; is = here ∙ sym same })
  ]
]

pub least_below : (tallies : List ℕ) (k : ℕ) → k < length tallies → least_of_tallies tallies ≤ tally_at tallies k
unfolding least_of_tallies
least_below tallies k inside = fold_below tallies NO_TALLY k inside

pub least_reached : (tallies : List ℕ) → (least_of_tallies tallies ≡ NO_TALLY) ⊎ Reached tallies (least_of_tallies tallies)
unfolding least_of_tallies
least_reached tallies = fold_reached tallies NO_TALLY

pub least_none : least_of_tallies [] ≡ NO_TALLY
unfolding least_of_tallies
least_none = refl

pub least_push : (tallies : List ℕ) (w : ℕ) → least_of_tallies (tallies ++ w ∷ []) ≡ min (least_of_tallies tallies) w
unfolding least_of_tallies
least_push tallies w = fold_push min NO_TALLY tallies w

pub least_small : (tallies : List ℕ) → least_of_tallies tallies ≤ NO_TALLY
unfolding least_of_tallies
least_small tallies = fold_falls tallies NO_TALLY
