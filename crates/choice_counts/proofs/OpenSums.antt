-- Sums over the paths without a literal, where a row or a slot changes.
use Rattle.std.proofs.Common.{◌≡◌, ◌⊎◌, ℕ, zero, suc, ◌+◌, ◌*◌, ◌<◌, ◌≤◌, Bool, true, false, cond, ltb, Option, Some, None, List, length, set, get_or, refl, sym, ap, ◌∙◌, subst, inl, inr, arith, sum_by, All, zero-add}
use Rattle.std.specs.List.{range_with_len}
use Rattle.std.specs.Option.{is_some}
use Rattle.std.proofs.lemmas.Bool.{cases_Bool, cases_eq, cases_lt, ltb-true}
use Rattle.std.proofs.lemmas.List.{get_or-set_other, get_or-set_same, length-set}
use Rattle.std.proofs.lemmas.List.Sums.{sum_by_push}
use Rattle.fapp_model.proofs.Sums.{range-sum-most, range-sum-same}
use Rattle.fapp_model.proofs.CostParts.{range_more}
use Rattle.nogood.specs.Partials.{choice_given}
use Rattle.choice_counts.specs.declared.rows.PathTallies.{PathTallies}
use Rattle.choice_counts.specs.declared.rows.TheConstants.{HARD}
use Rattle.choice_counts.specs.Totals.{open_sum}
use Rattle.choice_counts.specs.Tallies.{least_part, no_tallies, tallies_at, stuck_part}

pub range_sum_more : (g : ℕ → ℕ) (n : ℕ) → sum_by g (range_with_len 0 (suc n)) ≡ sum_by g (range_with_len 0 n) + g n
range_sum_more g n =
    let one : suc n ≡ n + 1 = omega arith in
    ap (λ k. sum_by g (range_with_len 0 k)) one ∙ (ap (sum_by g) (range_more 0 n) ∙ (sum_by_push g (range_with_len 0 n) (0 + n) ∙ ap (λ k. sum_by g (range_with_len 0 n) + g k) (zero-add n)))

-- two sums over a range that differ at one place
pub change_at : (g h : ℕ → ℕ) (n p : ℕ) → p < n → ((k : ℕ) → k < n → (k ≡ p → ⊥) → g k ≡ h k) → sum_by g (range_with_len 0 n) + h p ≡ sum_by h (range_with_len 0 n) + g p
change_at g h zero p inside same = absurd (omega arith)
change_at g h (suc n) p inside same =
    elim (cases_eq p n) [
      | inl last ↦
          let before : sum_by g (range_with_len 0 n) ≡ sum_by h (range_with_len 0 n) = range-sum-same g h n (λ k below. same k (omega arith) (λ e. absurd (omega arith))) in
          let gp : g p ≡ g n = ap g last in
          let hp : h p ≡ h n = ap h last in
          omega (arith, range_sum_more g n, range_sum_more h n)
      | inr other ↦
          let earlier : p < n = elim (cases_lt p n) [ inl less ↦ less | inr more ↦ absurd (other (omega arith)) ] in
          let before = change_at g h n p earlier (λ k below. same k (omega arith)) in
          let here : g n ≡ h n = same n (omega arith) (λ e. other (sym e)) in
          omega (arith, range_sum_more g n, range_sum_more h n)
    ]

module _ (f : ℕ → ℕ) (slots : List (Option ℕ)) (rows : List PathTallies) where
  abbrev part : List (Option ℕ) → List PathTallies → ℕ → ℕ
  part ss rs path = cond (is_some (choice_given ss path)) 0 (f (tallies_at rs path).least)

  -- the row of an open path changes
  pub open_changed : (path : ℕ) (row : PathTallies) → path < length slots → path < length rows → is_some (choice_given slots path) ≡ false → open_sum f slots (set rows path row) + f (tallies_at rows path).least ≡ open_sum f slots rows + f row.least
  open_changed path row inside within free =
      let changed = change_at (part slots (set rows path row)) (part slots rows) (length slots) path inside (λ k below other. ap (λ (r : PathTallies). cond (is_some (choice_given slots k)) 0 (f r.least)) (get_or-set_other rows path k row no_tallies other)) in
      let old : part slots rows path ≡ f (tallies_at rows path).least = ap (λ b. cond b 0 (f (tallies_at rows path).least)) free in
      let new : part slots (set rows path row) path ≡ f row.least = ap (λ b. cond b 0 (f (tallies_at (set rows path row) path).least)) free ∙ ap (λ (r : PathTallies). f r.least) (get_or-set_same rows path row no_tallies within) in
      omega (arith, changed, old, new)

  -- the row of a path with a literal changes
  pub open_kept : (path : ℕ) (row : PathTallies) → is_some (choice_given slots path) ≡ true → open_sum f slots (set rows path row) ≡ open_sum f slots rows
  open_kept path row taken =
      range-sum-same (part slots (set rows path row)) (part slots rows) (length slots) (λ k below. elim (cases_eq k path) [
        | inl same ↦
            let e : is_some (choice_given slots k) ≡ true = ap (λ j. is_some (choice_given slots j)) same ∙ taken in
            ap (λ b. cond b 0 (f (tallies_at (set rows path row) k).least)) e ∙ sym (ap (λ b. cond b 0 (f (tallies_at rows k).least)) e)
        | inr other ↦ ap (λ (r : PathTallies). cond (is_some (choice_given slots k)) 0 (f r.least)) (get_or-set_other rows path k row no_tallies other)
      ])

  -- a slot that is taken
  pub open_taken : (path index : ℕ) → path < length slots → is_some (choice_given slots path) ≡ false → open_sum f (set slots path (Some index)) rows + f (tallies_at rows path).least ≡ open_sum f slots rows
  open_taken path index inside free =
      let now : is_some (choice_given (set slots path (Some index)) path) ≡ true = ap is_some (get_or-set_same slots path (Some index) None inside) in
      let changed = change_at (part (set slots path (Some index)) rows) (part slots rows) (length slots) path inside (λ k below other. ap (λ s. cond (is_some s) 0 (f (tallies_at rows k).least)) (get_or-set_other slots path k (Some index) None other)) in
      let old : part slots rows path ≡ f (tallies_at rows path).least = ap (λ b. cond b 0 (f (tallies_at rows path).least)) free in
      let new : part (set slots path (Some index)) rows path ≡ 0 = ap (λ b. cond b 0 (f (tallies_at rows path).least)) now in
      let count = length-set slots path (Some index) in
      let same : open_sum f (set slots path (Some index)) rows ≡ sum_by (part (set slots path (Some index)) rows) (range_with_len 0 (length slots)) = ap (λ n. sum_by (part (set slots path (Some index)) rows) (range_with_len 0 n)) count in
      omega (arith, changed, old, new, same)

  -- a slot that is emptied
  pub open_freed : (path : ℕ) → path < length slots → is_some (choice_given slots path) ≡ true → open_sum f (set slots path None) rows ≡ open_sum f slots rows + f (tallies_at rows path).least
  open_freed path inside taken =
      let now : is_some (choice_given (set slots path None) path) ≡ false = ap is_some (get_or-set_same slots path None None inside) in
      let changed = change_at (part (set slots path None) rows) (part slots rows) (length slots) path inside (λ k below other. ap (λ s. cond (is_some s) 0 (f (tallies_at rows k).least)) (get_or-set_other slots path k None None other)) in
      let old : part slots rows path ≡ 0 = ap (λ b. cond b 0 (f (tallies_at rows path).least)) taken in
      let new : part (set slots path None) rows path ≡ f (tallies_at rows path).least = ap (λ b. cond b 0 (f (tallies_at rows path).least)) now in
      let count = length-set slots path None in
      let same : open_sum f (set slots path None) rows ≡ sum_by (part (set slots path None) rows) (range_with_len 0 (length slots)) = ap (λ n. sum_by (part (set slots path None) rows) (range_with_len 0 n)) count in
      omega (arith, changed, old, new, same)

  pub open_part : (path : ℕ) → path < length slots → is_some (choice_given slots path) ≡ false → f (tallies_at rows path).least ≤ open_sum f slots rows
  open_part path inside free = omega (arith, open_taken path 0 inside free)

  pub open_most : (most : ℕ) → ((n : ℕ) → f n ≤ most) → open_sum f slots rows ≤ length slots * most
  open_most most few = range-sum-most (part slots rows) (length slots) most (λ k below. bounded (is_some (choice_given slots k)) (f (tallies_at rows k).least) (few (tallies_at rows k).least))
    where
      bounded : (b : Bool) (n : ℕ) → n ≤ most → cond b 0 n ≤ most
      bounded true n h = omega arith
      bounded false n h = h

pub stuck_most : (n : ℕ) → stuck_part n ≤ 1
stuck_most n = by_cases (ltb n HARD)
  where
    by_cases : (b : Bool) → cond b 0 1 ≤ 1
    by_cases true = omega arith
    by_cases false = omega arith

pub least_most : (n : ℕ) → least_part n ≤ HARD
least_most n = by_cases (ltb n HARD) refl
  where
    by_cases : (b : Bool) → ltb n HARD ≡ b → cond b n 0 ≤ HARD
    by_cases true e = omega (arith, ltb-true n HARD e)
    by_cases false e = omega arith
