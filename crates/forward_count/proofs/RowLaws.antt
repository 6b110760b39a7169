-- Tallies that a loop writes in place, and the least of them.
use Rattle.std.proofs.Common.{◌≡◌, ℕ, ◌+◌, ◌<◌, ◌≤◌, min, List, length, map, take, set, refl, sym, ap, ◌∙◌, subst, inl, inr, arith, All, Contains}
use Rattle.std.specs.List.{range_with_len}
use Rattle.std.proofs.lemmas.Bool.{cases_eq, cases_lt}
use Rattle.std.proofs.lemmas.Grind.{get_or_default_zero}
use Rattle.std.proofs.lemmas.List.{get_or-set_other, get_or-set_same, length-set, take_all, take_more, take_more_set}
use Rattle.std.proofs.lemmas.List.FromFn.{fill_by_all}
use Rattle.choice_counts.specs.declared.rows.PathTallies.{PathTallies}
use Rattle.choice_counts.specs.Tallies.{least_of_tallies, no_tallies, tallies_at, tallies_by, tally_at}
use Rattle.choice_counts.proofs.Least.{least_below, least_push, least_reached, least_small}
use Rattle.forward_count.specs.Floors.{IsFloor}

-- the tallies so far are made from the old ones, and the others wait
pub record IsMapped (f : ℕ → ℕ → ℕ) (old tallies : List ℕ) (index : ℕ) : Type 0 where
  pub count : length tallies ≡ length old
  pub done : (k : ℕ) → k < index → tally_at tallies k ≡ f k (tally_at old k)
  pub waiting : (k : ℕ) → index ≤ k → tally_at tallies k ≡ tally_at old k

pub mapped_none : (f : ℕ → ℕ → ℕ) (old : List ℕ) → IsMapped f old old 0
mapped_none f old = record { count = refl; done = λ k below. absurd (omega arith); waiting = λ k above. refl }

pub mapped_more : (f : ℕ → ℕ → ℕ) (old tallies : List ℕ) (index tally : ℕ) → IsMapped f old tallies index → index < length tallies → tally ≡ f index (tally_at tallies index) → IsMapped f old (set tallies index tally) (index + 1)
mapped_more f old tallies index tally m inside e = record {
  count = length-set tallies index tally ∙ m.count;
  done = λ k below. elim (cases_eq k index) [
    | inl same ↦ subst (λ j. tally_at (set tallies index tally) j ≡ f j (tally_at old j)) (sym same) (get_or-set_same tallies index tally 0 inside ∙ (e ∙ ap (f index) (m.waiting index (omega arith))))
    | inr other ↦ get_or-set_other tallies index k tally 0 other ∙ m.done k (below_other k below other)
  ];
  waiting = λ k above. get_or-set_other tallies index k tally 0 (λ same. absurd (omega arith)) ∙ m.waiting k (omega arith);
}
  where
    below_other : (k : ℕ) → k < index + 1 → (k ≡ index → ⊥) → k < index
    below_other k below other = elim (cases_lt k index) [ inl less ↦ less | inr more ↦ absurd (other (omega arith)) ]

pub mapped_all : (f : ℕ → ℕ → ℕ) (old tallies : List ℕ) (index : ℕ) → IsMapped f old tallies index → length tallies ≤ index → tallies ≡ map (λ k. f k (tally_at old k)) (range_with_len 0 (length old))
mapped_all f old tallies index m past = fill_by_all (λ k. f k (tally_at old k)) tallies (length old) 0 m.count (λ k below. m.done k (omega (arith, m.count)))

pub least_write : (tallies : List ℕ) (index tally t u : ℕ) → index < length tallies → t ≡ least_of_tallies (take index tallies) → u ≡ min t tally → u ≡ least_of_tallies (take (index + 1) (set tallies index tally))
least_write tallies index tally t u inside before e =
    e ∙ (ap (λ x. min x tally) before ∙ (sym (least_push (take index tallies) tally) ∙ ap least_of_tallies (sym (take_more_set tallies index tally inside))))

pub least_all : (tallies made : List ℕ) (index t : ℕ) → length tallies ≤ index → t ≡ least_of_tallies (take index tallies) → tallies ≡ made → t ≡ least_of_tallies made
least_all tallies made index t past e same = e ∙ ap least_of_tallies (take_all index tallies past ∙ same)

abbrev row_of : List ℕ → ℕ → PathTallies
row_of tallies least = record { tallies = tallies; least = least }

pub row_made : (tallies made : List ℕ) (t : ℕ) → tallies ≡ made → t ≡ least_of_tallies made → row_of tallies t ≡ tallies_by made
row_made tallies made t same e = ap (λ ws. row_of ws t) same ∙ ap (row_of made) e

-- ---- floors

pub floor_least : (tallies : List ℕ) → IsFloor tallies (least_of_tallies tallies)
floor_least tallies = record { each = least_below tallies; small = least_small tallies }

-- a tally is written, and the floor lowered to it
pub floor_write : (tallies : List ℕ) (index tally floor low : ℕ) → index < length tallies → IsFloor tallies floor → low ≡ min floor tally → IsFloor (set tallies index tally) low
floor_write tallies index tally floor low inside f e = record {
  each = λ k below. elim (cases_eq k index) [
    | inl same ↦ omega (arith, e, ap (tally_at (set tallies index tally)) same, get_or-set_same tallies index tally 0 inside)
    | inr other ↦ omega (arith, e, get_or-set_other tallies index k tally 0 other, f.each k (omega (arith, below, length-set tallies index tally)))
  ];
  small = omega (arith, e, f.small);
}

-- a floor that is a tally is the least one
pub floor_found : (tallies : List ℕ) (floor : ℕ) → IsFloor tallies floor → Contains tallies floor → floor ≡ least_of_tallies tallies
floor_found tallies floor f at =
    let here : tally_at tallies at.0 ≡ floor = sym (get_or_default_zero tallies at.0 floor at.1) ∙ at.2 in
    let up = least_below tallies at.0 at.1 in
    elim (least_reached tallies) [
      | inl none ↦ omega (arith, none, f.small, up, here)
      | inr r ↦ omega (arith, f.each r.index r.inside, r.is, up, here)
    ]

-- the least of one tally more
pub least_more : (tallies : List ℕ) (index t : ℕ) → index < length tallies → t ≡ least_of_tallies (take index tallies) → least_of_tallies (take (index + 1) tallies) ≡ min t (tally_at tallies index)
least_more tallies index t inside before =
    ap least_of_tallies (take_more tallies index 0 inside) ∙ (least_push (take index tallies) (tally_at tallies index) ∙ ap (λ m. min m (tally_at tallies index)) (sym before))

pub row_floor : (rows : List PathTallies) → All (λ (r : PathTallies). r.least ≡ least_of_tallies r.tallies) rows → (path : ℕ) → path < length rows → IsFloor (tallies_at rows path).tallies (tallies_at rows path).least
row_floor rows all path inside = subst (IsFloor (tallies_at rows path).tallies) (sym (all path no_tallies inside)) (floor_least (tallies_at rows path).tallies)
