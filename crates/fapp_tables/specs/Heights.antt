-- At how many levels two choices are too close.
use Rattle.std.specs.Prelude.{ℕ, ◌≤◌, nat_lt, List, AllPairs}
use Rattle.std.specs.List.{prefix_len}
use Rattle.fapp_model.specs.declared.record.Record.{Record}
use Rattle.fapp_model.specs.declared.record.Record.TheVariants.{Freq, Pol, Same, Other}

-- so many distances, from the first on, are above the number
unfoldable pub height_of : List ℕ → ℕ → ℕ
height_of dist n = prefix_len (λ d. nat_lt n d) dist

-- a record's distances don't rise from level to level
abbrev pub DistancesFall : Record → Type 0
DistancesFall (Freq i j equal n) = Unit {0}
DistancesFall (Pol i j equal) = Unit {0}
DistancesFall (Same i j dist) = AllPairs (λ a b. b ≤ a) dist
DistancesFall (Other i j dist) = AllPairs (λ a b. b ≤ a) dist
