-- The violations of a plan don't rise with the level, and end at the last one.
use Rattle.std.proofs.Common.{◌≡◌, ℕ, ◌*◌, ◌≤◌, Bool, true, false, not, List, length, get_or, refl, sym, ap, ◌∙◌, subst, inl, inr, arith, All, slice_index}
use Rattle.std.specs.List.{range_with_len}
use Rattle.std.proofs.lemmas.Bool.{cases_lt, ltb-true, lt-ltb, le-ltb, and_parts, and_from, and_right}
use Rattle.std.proofs.lemmas.List.{get_or_past}
use Rattle.std.proofs.lemmas.List.Sums.{count_by-le-length, sum_by-le}
use Rattle.std.proofs.lemmas.List.FromFn.{length-range_with_len}
use Rattle.fapp_model.specs.declared.choice.Choice.{Choice}
use Rattle.fapp_model.specs.declared.instance.Instance.{Instance}
use Rattle.fapp_model.specs.declared.record.Record.{Record}
use Rattle.fapp_model.specs.declared.record.Record.TheVariants.{Freq, Pol, Same, Other}
use Rattle.fapp_model.specs.Assignments.{violates}
use Rattle.fapp_model.specs.Costs.{violations, sum_under}
use Rattle.fapp_model.specs.Instances.{IsInstance, HasNumbers, AreDistances}
use Rattle.fapp_model.specs.Levels.{levels_of}
use Rattle.fapp_model.specs.Records.{is_bad, is_closer, distance, same_polarization}
use Rattle.fapp_model.proofs.ClearLevels.{IsFalling}
use Rattle.fapp_model.proofs.Sums.{none-count_by, count_by-none}
use Rattle.fapp_model.proofs.Members.{All-range}

-- a later distance is none above an earlier one
pub falling_at : (levels : ℕ) (dist : List ℕ) → AreDistances levels dist → (m n : ℕ) → m ≤ n → slice_index dist n ≤ slice_index dist m
falling_at levels dist d m n h =
    elim (cases_lt n (length dist)) [
      | inr past ↦ omega (arith, get_or_past dist n 0 past)
      | inl inside ↦ elim (cases_lt m n) [
        | inl less ↦ d.falling m n 0 less inside
        | inr more ↦ let same : m ≡ n = omega arith in omega (arith, ap (slice_index dist) same)
      ]
    ]

closer_at : (levels : ℕ) (dist : List ℕ) → AreDistances levels dist → (m n : ℕ) → m ≤ n → (a b : Choice) → is_closer n dist a b ≡ true → is_closer m dist a b ≡ true
closer_at levels dist d m n h a b e = lt-ltb _ _ (omega (arith, falling_at levels dist d m n h, ltb-true (distance a b) (slice_index dist n) e))

-- a record that is bad at a level is bad at each lower one
pub bad_lower : (levels : ℕ) (r : Record) → HasNumbers levels r → (m n : ℕ) → m ≤ n → (a b : Choice) → is_bad n r a b ≡ true → is_bad m r a b ≡ true
bad_lower levels (Freq i j equal k) d m n h a b e = e
bad_lower levels (Pol i j equal) d m n h a b e = e
bad_lower levels (Same i j dist) d m n h a b e =
    let parts = and_parts (same_polarization a b) (is_closer n dist a b) e in
    and_from (same_polarization a b) (is_closer m dist a b) parts.0 (closer_at levels dist d m n h a b parts.1)
bad_lower levels (Other i j dist) d m n h a b e =
    let parts = and_parts (not (same_polarization a b)) (is_closer n dist a b) e in
    and_from (not (same_polarization a b)) (is_closer m dist a b) parts.0 (closer_at levels dist d m n h a b parts.1)

far_at_end : (levels : ℕ) (dist : List ℕ) → AreDistances levels dist → (a b : Choice) → is_closer levels dist a b ≡ false
far_at_end levels dist d a b = le-ltb (distance a b) (slice_index dist levels) (omega (arith, d.ended levels (omega arith)))

-- no record is bad at the last level
pub bad_at_end : (levels : ℕ) (r : Record) → HasNumbers levels r → (a b : Choice) → is_bad levels r a b ≡ false
bad_at_end levels (Freq i j equal k) d a b = refl
bad_at_end levels (Pol i j equal) d a b = refl
bad_at_end levels (Same i j dist) d a b = and_right (same_polarization a b) (is_closer levels dist a b) (far_at_end levels dist d a b)
bad_at_end levels (Other i j dist) d a b = and_right (not (same_polarization a b)) (is_closer levels dist a b) (far_at_end levels dist d a b)

pub not_bad_higher : (levels : ℕ) (r : Record) → HasNumbers levels r → (m n : ℕ) → m ≤ n → (a b : Choice) → is_bad m r a b ≡ false → is_bad n r a b ≡ false
not_bad_higher levels r d m n h a b e = by_cases (is_bad n r a b) refl
  where
    by_cases : (t : Bool) → is_bad n r a b ≡ t → t ≡ false
    by_cases true bad = sym (bad_lower levels r d m n h a b bad) ∙ e
    by_cases false bad = refl

pub numbers_of : (instance : Instance) → IsInstance instance → All (HasNumbers (levels_of instance)) instance.records
numbers_of instance v = λ k d l. (v.records k d l).numbers

pub violations-falling : (instance : Instance) (plan : List ℕ) → IsInstance instance → IsFalling (levels_of instance) (violations instance plan)
violations-falling instance plan v = record {
  ends = count_by-none (violates instance plan (levels_of instance)) instance.records (λ k d l. bad_at_end (levels_of instance) (get_or instance.records k d) (numbers_of instance v k d l) _ _);
  stays = λ m n h none. count_by-none (violates instance plan n) instance.records (λ k d l. not_bad_higher (levels_of instance) (get_or instance.records k d) (numbers_of instance v k d l) m n h _ _ (none-count_by (violates instance plan m) instance.records none k d l));
}

pub violations-le : (instance : Instance) (plan : List ℕ) (level : ℕ) → violations instance plan level ≤ length instance.records
violations-le instance plan level = count_by-le-length (violates instance plan level) instance.records

pub sum_under-le : (instance : Instance) (plan : List ℕ) (n : ℕ) → sum_under (violations instance plan) n ≤ n * length instance.records
unfolding sum_under
sum_under-le instance plan n =
    let bound = sum_by-le (violations instance plan) (length instance.records) (range_with_len 0 n) (All-range (λ level. violations instance plan level ≤ length instance.records) n (λ m h. violations-le instance plan m)) in
    subst (λ k. sum_under (violations instance plan) n ≤ k * length instance.records) (length-range_with_len 0 n) bound
