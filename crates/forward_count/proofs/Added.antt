-- Rows that are made anew, neighbour by neighbour.
use Rattle.std.proofs.Common.{◌≡◌, ℕ, ◌<◌, Bool, true, false, cond, List, length, map, set, refl, sym, ap, ◌∙◌, subst, inl, inr, arith}
use Rattle.std.specs.List.{range_with_len}
use Rattle.std.proofs.lemmas.Bool.{cases_eq}
use Rattle.std.proofs.lemmas.List.{get_or-set_other, get_or-set_same, length-set}
use Rattle.std.proofs.lemmas.List.FromFn.{fill_by_all}
use Rattle.choice_counts.specs.declared.rows.PathTallies.{PathTallies}
use Rattle.choice_counts.specs.Tallies.{no_tallies, tallies_at, tallies_by}

-- some rows are made anew, and the others are the old ones
pub record IsAdded (made : ℕ → List ℕ) (got : ℕ → Bool) (old rows : List PathTallies) : Type 0 where
  pub count : length rows ≡ length old
  pub each : (q : ℕ) → q < length old → tallies_at rows q ≡ cond (got q) (tallies_by (made q)) (tallies_at old q)

pub added_none : (made : ℕ → List ℕ) (old : List PathTallies) → IsAdded made (λ q. false) old old
added_none made old = record { count = refl; each = λ q below. refl }

pub added_more : (made : ℕ → List ℕ) (got next : ℕ → Bool) (old rows : List PathTallies) (q : ℕ) (row : PathTallies) → IsAdded made got old rows → q < length old → next q ≡ true →
    ((k : ℕ) → (k ≡ q → ⊥) → next k ≡ got k) → row ≡ tallies_by (made q) → IsAdded made next old (set rows q row)
added_more made got next old rows q row added inside here others is = record {
  count = length-set rows q row ∙ added.count;
  each = λ k below. elim (cases_eq k q) [
    | inl same ↦ subst (λ j. tallies_at (set rows q row) j ≡ cond (next j) (tallies_by (made j)) (tallies_at old j)) (sym same)
        (get_or-set_same rows q row no_tallies (omega (arith, added.count)) ∙ (is ∙ sym (ap (λ b. cond b (tallies_by (made q)) (tallies_at old q)) here)))
    | inr other ↦ get_or-set_other rows q k row no_tallies other ∙ (added.each k below ∙ ap (λ b. cond b (tallies_by (made k)) (tallies_at old k)) (sym (others k other)))
  ];
}

-- a row that was not made anew yet
pub waits : (made : ℕ → List ℕ) (got : ℕ → Bool) (old rows : List PathTallies) → IsAdded made got old rows → (q : ℕ) → q < length old → got q ≡ false → tallies_at rows q ≡ tallies_at old q
waits made got old rows added q below e = added.each q below ∙ ap (λ b. cond b (tallies_by (made q)) (tallies_at old q)) e

pub added_all : (made : ℕ → List ℕ) (got shares : ℕ → Bool) (old rows : List PathTallies) (n : ℕ) → length old ≡ n → IsAdded made got old rows → ((q : ℕ) → q < n → got q ≡ shares q) →
    rows ≡ map (λ q. cond (shares q) (tallies_by (made q)) (tallies_at old q)) (range_with_len 0 n)
added_all made got shares old rows n count added same =
    fill_by_all (λ q. cond (shares q) (tallies_by (made q)) (tallies_at old q)) rows n no_tallies (added.count ∙ count)
    (λ q below. added.each q (omega (arith, below, count)) ∙ ap (λ b. cond b (tallies_by (made q)) (tallies_at old q)) (same q below))
