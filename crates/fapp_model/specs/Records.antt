-- What constraint records say of two choices.
use Rattle.std.specs.Prelude.{ℕ, Bool, true, false, not, ◌&&◌, ◌==◌, nat_lt, List, slice_index}
use Rattle.std.specs.Int.{abs_diff}
use Rattle.std.specs.Ordering.{int_eq}
use Rattle.fapp_model.specs.declared.choice.Choice.{Choice}
use Rattle.fapp_model.specs.declared.record.Record.{Record}
use Rattle.fapp_model.specs.declared.record.Record.TheVariants.{Freq, Pol, Same, Other}

-- the positions of the two paths that a record names
abbrev pub first_path : Record → ℕ
first_path (Freq i j equal n) = i
first_path (Pol i j equal) = i
first_path (Same i j dist) = i
first_path (Other i j dist) = i

abbrev pub second_path : Record → ℕ
second_path (Freq i j equal n) = j
second_path (Pol i j equal) = j
second_path (Same i j dist) = j
second_path (Other i j dist) = j

-- how far the frequencies of two choices are apart
abbrev pub distance : Choice → Choice → ℕ
distance a b = abs_diff a.freq b.freq

abbrev pub same_polarization : Choice → Choice → Bool
same_polarization a b = int_eq a.pol b.pol

-- an imperative record is broken by a choice of its first path and one of its second
abbrev pub is_broken : Record → Choice → Choice → Bool
is_broken (Freq i j true n) a b = not (distance a b == n)
is_broken (Freq i j false n) a b = distance a b == n
is_broken (Pol i j true) a b = not (same_polarization a b)
is_broken (Pol i j false) a b = same_polarization a b
is_broken (Same i j dist) a b = false
is_broken (Other i j dist) a b = false

-- two choices are closer than the distance of a level; past the last distance none are
abbrev pub is_closer : ℕ → List ℕ → Choice → Choice → Bool
is_closer level dist a b = nat_lt (distance a b) (slice_index dist level)

-- a compatibility record is bad at a level
abbrev pub is_bad : ℕ → Record → Choice → Choice → Bool
is_bad level (Same i j dist) a b = same_polarization a b && is_closer level dist a b
is_bad level (Other i j dist) a b = not (same_polarization a b) && is_closer level dist a b
is_bad level (Freq i j equal n) a b = false
is_bad level (Pol i j equal) a b = false
