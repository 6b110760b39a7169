-- Cells that follow one another.
use Rattle.std.proofs.Common.{◌≡◌, ◌≢◌, ℕ, zero, suc, ◌+◌, ◌-◌, ◌<◌, ◌≤◌, Bool, true, false, List, [], ◌∷◌, ◌++◌, length, set, add-one, refl, sym, ap, ◌∙◌, subst, inl, inr, arith, All}
use Rattle.std.proofs.lemmas.Bool.{cases_lt}
use Rattle.std.proofs.lemmas.List.{get_or-set_other, get_or-set_same, get_or_append_left, get_or_push, length-set, length_push}
use Rattle.fapp_model.specs.declared.instance.Instance.{Instance}
use Rattle.fapp_tables.specs.Indexes.{record_at, records_of}
use Rattle.choice_counts.specs.declared.breaks.TheConstants.{NO_REACH}
use Rattle.choice_counts.specs.declared.cells.Cell.{Cell}
use Rattle.choice_counts.specs.Breaks.{IsSteady}
use Rattle.choice_counts.specs.Cells.{AreCells, AddsCell, AreWhole, IsCell, IsFar, cell_at, end_of_cells, no_cell, reaching, start_of, tally_in}
use Rattle.choice_counts.specs.Distances.{tally_apart}
use Rattle.choice_counts.proofs.TallyLaws.{tallies_steady}

-- a cell with the tallies of one distance has those of each further one that it reaches over
pub cell_tallies : (instance : Instance) (level path other : ℕ) → path ≢ other → (start : ℕ) (cell : Cell) →
    cell.same ≡ tally_apart instance level path other true start → cell.other ≡ tally_apart instance level path other false start →
    All (λ k. IsSteady (record_at instance k) start cell.reach) (records_of instance path other) → IsCell instance level path other start cell
cell_tallies instance level path other apart start cell es eo all true d from below = es ∙ sym (tallies_steady instance level path other apart start cell.reach all true d from below)
cell_tallies instance level path other apart start cell es eo all false d from below = eo ∙ sym (tallies_steady instance level path other apart start cell.reach all false d from below)

-- where a cell starts is told by those before it
pub start_same : (cells more : List Cell) (place : ℕ) → ((k : ℕ) → k < place → cell_at cells k ≡ cell_at more k) → start_of cells place ≡ start_of more place
start_same cells more zero same = refl
start_same cells more (suc place) same = ap (λ (cell : Cell). cell.reach) (same place (omega arith))

pub start_more : (cells : List Cell) (place : ℕ) → start_of cells (place + 1) ≡ (cell_at cells place).reach
start_more cells place = rw (add-one place) refl

pub end_last : (cells : List Cell) → 0 < length cells → end_of_cells cells ≡ (cell_at cells (length cells - 1)).reach
end_last cells some = let e : length cells ≡ length cells - 1 + 1 = omega arith in ap (start_of cells) e ∙ start_more cells (length cells - 1)

module _ (old : List Cell) (cell : Cell) where
  pushed_end : end_of_cells (old ++ cell ∷ []) ≡ cell.reach
  pushed_end = ap (start_of (old ++ cell ∷ [])) (length_push old cell) ∙ (start_more (old ++ cell ∷ []) (length old) ∙ ap (λ (c : Cell). c.reach) (get_or_push old cell no_cell (length old) refl))

  last_set : 0 < length old → cell_at (set old (length old - 1) cell) (length old - 1) ≡ cell
  last_set some = get_or-set_same old (length old - 1) cell no_cell (omega arith)

  set_end : 0 < length old → end_of_cells (set old (length old - 1) cell) ≡ cell.reach
  set_end some =
      let same = length-set old (length old - 1) cell in
      ap (start_of (set old (length old - 1) cell)) same ∙ ((let e : length old ≡ length old - 1 + 1 = omega arith in ap (start_of (set old (length old - 1) cell)) e)
      ∙ (start_more (set old (length old - 1) cell) (length old - 1) ∙ ap (λ (c : Cell). c.reach) (last_set some)))

  pub extends_end : (new : List Cell) → AddsCell old cell new → end_of_cells new ≡ cell.reach
  extends_end new (inl e) = ap end_of_cells e ∙ pushed_end
  extends_end new (inr (some, e, like)) = ap end_of_cells e ∙ set_end some

  module _ (instance : Instance) (level path other : ℕ) (are : AreCells instance level path other old) (is : IsCell instance level path other (end_of_cells old) cell) where
    pushed_cells : AreCells instance level path other (old ++ cell ∷ [])
    pushed_cells place inside = elim (cases_lt place (length old)) [
      | inl before ↦
          let same : (k : ℕ) → k < length old → cell_at old k ≡ cell_at (old ++ cell ∷ []) k = λ k below. sym (get_or_append_left old (cell ∷ []) no_cell k below) in
          subst (λ (c : Cell). IsCell instance level path other (start_of (old ++ cell ∷ []) place) c) (same place before)
          (subst (λ (n : ℕ). IsCell instance level path other n (cell_at old place)) (start_same old (old ++ cell ∷ []) place (λ k below. same k (omega arith))) (are place before))
      | inr past ↦
          let here : place ≡ length old = omega (arith, length_push old cell) in
          subst (λ (k : ℕ). IsCell instance level path other (start_of (old ++ cell ∷ []) k) (cell_at (old ++ cell ∷ []) k)) (sym here)
          (subst (λ (c : Cell). IsCell instance level path other (start_of (old ++ cell ∷ []) (length old)) c) (sym (get_or_push old cell no_cell (length old) refl))
          (subst (λ (n : ℕ). IsCell instance level path other n cell) (start_same old (old ++ cell ∷ []) (length old) (λ k below. sym (get_or_append_left old (cell ∷ []) no_cell k below))) is))
    ]

    -- the last cell, reaching further
    longer : 0 < length old → reaching (cell_at old (length old - 1)) cell.reach ≡ cell → IsCell instance level path other (start_of old (length old - 1)) cell
    longer some like same d from below = elim (cases_lt d (cell_at old (length old - 1)).reach) [
      | inl before ↦ sym (ap (λ (c : Cell). tally_in c same) like) ∙ are (length old - 1) (omega arith) same d from before
      | inr past ↦ is same d (omega (arith, end_last old some)) below
    ]

    set_cells : 0 < length old → reaching (cell_at old (length old - 1)) cell.reach ≡ cell → AreCells instance level path other (set old (length old - 1) cell)
    set_cells some like place inside =
        let new = set old (length old - 1) cell in
        let same : (k : ℕ) → k < length old - 1 → cell_at old k ≡ cell_at new k = λ k below. sym (get_or-set_other old (length old - 1) k cell no_cell (λ e. absurd (omega arith))) in
        elim (cases_lt place (length old - 1)) [
          | inl before ↦
              subst (λ (c : Cell). IsCell instance level path other (start_of new place) c) (same place before)
              (subst (λ (n : ℕ). IsCell instance level path other n (cell_at old place)) (start_same old new place (λ k below. same k (omega arith))) (are place (omega arith)))
          | inr past ↦
              let here : place ≡ length old - 1 = omega (arith, length-set old (length old - 1) cell) in
              subst (λ (k : ℕ). IsCell instance level path other (start_of new k) (cell_at new k)) (sym here)
              (subst (λ (c : Cell). IsCell instance level path other (start_of new (length old - 1)) c) (sym (last_set some))
              (subst (λ (n : ℕ). IsCell instance level path other n cell) (start_same old new (length old - 1) same) (longer some like)))
        ]

    pub extends_cells : (new : List Cell) → AddsCell old cell new → AreCells instance level path other new
    extends_cells new (inl e) = subst (AreCells instance level path other) (sym e) pushed_cells
    extends_cells new (inr (some, e, like)) = subst (AreCells instance level path other) (sym e) (set_cells some like)

-- from the far distance on nothing is counted
pub far_none : (instance : Instance) (level path other : ℕ) (cells : List Cell) (distance : ℕ) → AreCells instance level path other cells → AreWhole cells → IsFar cells distance →
    (same : Bool) (d : ℕ) → distance ≤ d → d < NO_REACH → tally_apart instance level path other same d ≡ 0
far_none instance level path other cells distance are whole (inl none) same d from below = absurd (omega (arith, none, from, below))
far_none instance level path other cells distance are whole (inr last) same d from below =
    let place = length cells - 1 in
    let reach = end_last cells whole.some in
    sym (are place (omega (arith, whole.some)) same d (omega (arith, last.0, from)) (omega (arith, reach, whole.last, below))) ∙ zero_in same
  where
    zero_in : (t : Bool) → tally_in (cell_at cells (length cells - 1)) t ≡ 0
    zero_in true = last.1.0
    zero_in false = last.1.1
