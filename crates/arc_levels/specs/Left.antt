-- The choices of a path that are left, as frequencies.
use Rattle.std.specs.Prelude.{◌≡◌, ℕ, ◌<◌, ◌≤◌, Bool, not, ◌&&◌, ◌||◌, List, length, slice_index, ℤ, pos, negsuc, map, filter, All, AllPairs}
use Rattle.std.specs.List.{list_any, range_with_len}
use Rattle.std.specs.Ordering.{int_eq}
use Rattle.fapp_model.specs.declared.choice.Choice.{Choice}
use Rattle.fapp_model.specs.declared.instance.Instance.{Instance}
use Rattle.fapp_model.specs.Assignments.{count_at}
use Rattle.fapp_model.specs.Instances.{IsNumber}
use Rattle.fapp_model.specs.search.Partials.{choice_of, literal}
use Rattle.arc_levels.specs.declared.gaps.Edge.{Edge}
use Rattle.arc_levels.specs.declared.left.Left.{Left}
use Rattle.arc_levels.specs.Gaps.{pair_clash}
use Rattle.arc_levels.specs.Heights.{arc_of}

-- a choice of a path is within the arcs and has a polarization
abbrev pub is_left : Instance → ℕ → List (List ℕ) → ℕ → ℤ → ℕ → Bool
is_left instance level rows path polarization index =
    arc_of rows level (literal path index)
    && int_eq (choice_of instance (literal path index)).pol polarization

-- the frequencies of those that are, of so many choices of a path
abbrev pub left_freqs : Instance → ℕ → List (List ℕ) → ℕ → ℤ → ℕ → List ℕ
left_freqs instance level rows path polarization count =
    map (λ index. (choice_of instance (literal path index)).freq)
    (filter (is_left instance level rows path polarization) (range_with_len 0 count))

-- the frequencies of all choices of a path that are within the arcs
pub record IsLeft (instance : Instance) (level : ℕ) (rows : List (List ℕ)) (path : ℕ)
    (left : Left) : Type 0 where
  pub minus : left.minus.items ≡ left_freqs instance level rows path (negsuc 0)
      (count_at instance path)
  pub plus : left.plus.items ≡ left_freqs instance level rows path (pos 1) (count_at instance path)

-- frequencies that ascend
pub record AreRising (freqs : List ℕ) : Type 0 where
  pub numbers : All IsNumber freqs
  pub rising : AllPairs (λ a b. a ≤ b) freqs

-- the place of the first frequency that is not below another one, or their number
pub record IsPlaceOf (freqs : List ℕ) (next found : ℕ) : Type 0 where
  pub within : found ≤ length freqs
  pub before : (k : ℕ) → k < found → slice_index freqs k < next
  pub behind : (k : ℕ) → found ≤ k → k < length freqs → next ≤ slice_index freqs k

-- no record of a pair is hard-bad between a choice and one of some frequency and polarization
abbrev pub is_met : Edge → Choice → ℤ → List ℕ → Bool
is_met pair first polarization freqs =
    list_any (λ n. not (pair_clash pair first (record { freq = n; pol = polarization }))) freqs

-- no record of a pair is hard-bad between a choice and one that is left
abbrev pub has_partner : Edge → Choice → Left → Bool
has_partner pair first left =
    is_met pair first (negsuc 0) left.minus.items || is_met pair first (pos 1) left.plus.items
