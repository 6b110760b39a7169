-- At how many levels a record is bad: at those below its height.
use Rattle.std.proofs.Common.{◌≡◌, ℕ, zero, suc, ◌+◌, ◌-◌, ◌<◌, ◌≤◌, min, Bool, true, false, cond, ltb, not, ◌&&◌, ◌||◌, ◌⊎◌, List, zero-add, length, slice_index, AllPairs, sym, ap, ◌∙◌, subst, inl, inr, arith, count_by, sum_by}
use Rattle.std.specs.List.{range_with_len, prefix_len}
use Rattle.std.proofs.lemmas.Bool.{cases_lt, ltb-false, lt-ltb, le-ltb}
use Rattle.std.proofs.lemmas.List.{get_or_past}
use Rattle.std.proofs.lemmas.List.Sums.{prefix_len_is, prefix_len_passes, prefix_len_stops, prefix_len-le-length, sum_by_push}
use Rattle.fapp_model.specs.declared.choice.Choice.{Choice}
use Rattle.fapp_model.specs.declared.limits.TheConstants.{S_SPAN}
use Rattle.fapp_model.specs.declared.record.Record.{Record}
use Rattle.fapp_model.specs.declared.record.Record.TheVariants.{Freq, Pol, Same, Other}
use Rattle.fapp_model.specs.Instances.{HasNumbers}
use Rattle.fapp_model.specs.Records.{distance, is_bad, is_broken, is_closer, same_polarization}
use Rattle.fapp_model.specs.search.Weights.{bad_before, bad_further}
use Rattle.fapp_model.proofs.Sums.{sum_by-same-members}
use Rattle.fapp_model.proofs.Members.{All-range}
use Rattle.fapp_tables.specs.Heights.{height_of, DistancesFall}
use Rattle.fapp_tables.specs.Measures.{coded_part, hard_part}
use Rattle.fapp_model.proofs.CostParts.{range_more}

-- so many distances are above the number, and the next one isn't
pub height_is : (dist : List ℕ) (n k : ℕ) → k ≤ length dist → ((j : ℕ) → j < k → n < slice_index dist j) → (k < length dist → slice_index dist k ≤ n) → height_of dist n ≡ k
unfolding height_of
height_is dist n k within above stops = prefix_len_is (λ d. ltb n d) dist k 0 within (λ j below. lt-ltb _ _ (above j below)) (λ below. le-ltb _ _ (stops below))

abbrev Falls : List ℕ → Type 0
Falls dist = AllPairs (λ a b. b ≤ a) dist

falls_at : (dist : List ℕ) → Falls dist → (m n : ℕ) → m ≤ n → slice_index dist n ≤ slice_index dist m
falls_at dist d m n h =
    elim (cases_lt n (length dist)) [
      | inr past ↦ omega (arith, get_or_past dist n 0 past)
      | inl inside ↦ elim (cases_lt m n) [
        | inl less ↦ d m n 0 less inside
        | inr more ↦ let same : m ≡ n = omega arith in omega (arith, ap (slice_index dist) same)
      ]
    ]

-- the distances of a valid record don't rise
pub DistancesFall-is : (levels : ℕ) (r : Record) → HasNumbers levels r → DistancesFall r
DistancesFall-is levels (Freq i j equal n) h = tt
DistancesFall-is levels (Pol i j equal) h = tt
DistancesFall-is levels (Same i j dist) h = h.falling
DistancesFall-is levels (Other i j dist) h = h.falling

-- at a level the distance is above the number exactly where the level is below the height
pub closer_is : (dist : List ℕ) → Falls dist → (n level : ℕ) → ltb n (slice_index dist level) ≡ ltb level (height_of dist n)
unfolding height_of
closer_is dist d n level =
    let h = prefix_len (λ x. ltb n x) dist in
    let within : h ≤ length dist = prefix_len-le-length (λ x. ltb n x) dist in
    elim (cases_lt level h) [
      | inl below ↦ prefix_len_passes (λ x. ltb n x) dist level 0 below ∙ sym (lt-ltb _ _ below)
      | inr above ↦ elim (cases_lt h (length dist)) [
        | inl inside ↦ le-ltb _ _ (omega (arith, falls_at dist d h level above, ltb-false n (slice_index dist h) (prefix_len_stops (λ x. ltb n x) dist 0 inside))) ∙ sym (le-ltb _ _ above)
        | inr past ↦ le-ltb _ _ (omega (arith, get_or_past dist level 0 (omega arith))) ∙ sym (le-ltb _ _ above)
      ]
    ]

abbrev pub one : Bool → ℕ
one t = cond t 1 0

next_count : (h n : ℕ) → (n < h) ⊎ (h ≤ n) → count_by (λ m. ltb m h) (range_with_len 0 n) ≡ min h n → sum_by (λ m. one (ltb m h)) (range_with_len 0 n) + one (ltb (0 + n) h) ≡ min h (n + 1)
next_count h n (inl below) before = rw (zero-add n, lt-ltb n h below) (omega arith)
next_count h n (inr above) before = rw (zero-add n, le-ltb n h above) (omega arith)

below_count : (h n : ℕ) → count_by (λ m. ltb m h) (range_with_len 0 n) ≡ min h n
below_count h zero = omega arith
below_count h (suc n) =
    let same : suc n ≡ n + 1 = omega arith in
    let step : sum_by (λ m. one (ltb m h)) (range_with_len 0 (n + 1)) ≡ min h (n + 1) =
    ap (sum_by (λ m. one (ltb m h))) (range_more 0 n) ∙ (sum_by_push (λ m. one (ltb m h)) (range_with_len 0 n) (0 + n) ∙ next_count h n (cases_lt n h) (below_count h n)) in
    subst (λ k. sum_by (λ m. one (ltb m h)) (range_with_len 0 k) ≡ min h k) (sym same) step

module _ (r : Record) (a b : Choice) (h : ℕ) (bad : (level : ℕ) → is_bad level r a b ≡ ltb level h) where
  pub further_is : (level : ℕ) → bad_further level r a b ≡ min h (level - 1)
  further_is level =
      sum_by-same-members (λ m. one (is_bad m r a b)) (λ m. one (ltb m h)) (range_with_len 0 (level - 1))
      (All-range (λ m. one (is_bad m r a b) ≡ one (ltb m h)) (level - 1) (λ m _. ap one (bad m)))
      ∙ below_count h (level - 1)

  pub before_is : (level : ℕ) → bad_before level r a b ≡ cond (ltb (level - 1) h) 1 0
  before_is level = ap (λ t. cond t 1 0) (bad (level - 1))

  pub coded_yes : (level : ℕ) → level - 1 < h → coded_part level r a b ≡ S_SPAN + min h (level - 1)
  coded_yes level below = rw (before_is level, lt-ltb (level - 1) h below, further_is level) (omega arith)

  pub coded_no : (level : ℕ) → h ≤ level - 1 → coded_part level r a b ≡ min h (level - 1)
  coded_no level above = rw (before_is level, le-ltb (level - 1) h above, further_is level) (omega arith)

  pub hard_is : (level : ℕ) → hard_part level r a b ≡ cond (is_broken r a b || ltb level h) 1 0
  hard_is level = ap (λ t. cond (is_broken r a b || t) 1 0) (bad level)

-- where the polarizations fit, the height of the distances
pub same_yes : (i j : ℕ) (dist : List ℕ) (a b : Choice) → Falls dist → same_polarization a b ≡ true → (level : ℕ) → is_bad level (Same i j dist) a b ≡ ltb level (height_of dist (distance a b))
same_yes i j dist a b d e level = ap (λ t. t && is_closer level dist a b) e ∙ closer_is dist d (distance a b) level

pub other_yes : (i j : ℕ) (dist : List ℕ) (a b : Choice) → Falls dist → same_polarization a b ≡ false → (level : ℕ) → is_bad level (Other i j dist) a b ≡ ltb level (height_of dist (distance a b))
other_yes i j dist a b d e level = ap (λ t. not t && is_closer level dist a b) e ∙ closer_is dist d (distance a b) level

pub same_no : (i j : ℕ) (dist : List ℕ) (a b : Choice) → same_polarization a b ≡ false → (level : ℕ) → is_bad level (Same i j dist) a b ≡ ltb level 0
same_no i j dist a b e level = ap (λ t. t && is_closer level dist a b) e ∙ sym (le-ltb level 0 (omega arith))

pub other_no : (i j : ℕ) (dist : List ℕ) (a b : Choice) → same_polarization a b ≡ true → (level : ℕ) → is_bad level (Other i j dist) a b ≡ ltb level 0
other_no i j dist a b e level = ap (λ t. not t && is_closer level dist a b) e ∙ sym (le-ltb level 0 (omega arith))

abbrev HasHeight : Record → Choice → Choice → ℕ → Type 0
HasHeight r a b h = DistancesFall r → (level : ℕ) → is_bad level r a b ≡ ltb level h

pub same_height : (r : Record) (i j : ℕ) (dist : List ℕ) (a b : Choice) (n h : ℕ) → r ≡ Same i j dist → DistancesFall r → same_polarization a b ≡ true → n ≡ distance a b → h ≡ height_of dist n → (level : ℕ) → is_bad level r a b ≡ ltb level h
same_height r i j dist a b n h is numbers e en eh =
    subst (λ x. HasHeight x a b h) (sym is) (λ d level. same_yes i j dist a b d e level ∙ ap (ltb level) (sym (eh ∙ ap (height_of dist) en))) numbers

pub other_height : (r : Record) (i j : ℕ) (dist : List ℕ) (a b : Choice) (n h : ℕ) → r ≡ Other i j dist → DistancesFall r → same_polarization a b ≡ false → n ≡ distance a b → h ≡ height_of dist n → (level : ℕ) → is_bad level r a b ≡ ltb level h
other_height r i j dist a b n h is numbers e en eh =
    subst (λ x. HasHeight x a b h) (sym is) (λ d level. other_yes i j dist a b d e level ∙ ap (ltb level) (sym (eh ∙ ap (height_of dist) en))) numbers
