-- Which literals and paths nothing is against.
use Rattle.std.specs.Prelude.{◌≡◌, ℕ, ◌<◌, false, List, length, All}
use Rattle.fapp_model.specs.declared.instance.Instance.{Instance}
use Rattle.fapp_model.specs.declared.literal.Literal.{Literal}
use Rattle.fapp_model.specs.Assignments.{count_at}
use Rattle.fapp_model.specs.search.Partials.{literal, names}
use Rattle.choice_counts.specs.CountedSums.{RemainsAt}

-- each literal remains against all literals
abbrev pub AllStand : Instance → ℕ → List Literal → Type 0
AllStand instance level literals = All (RemainsAt instance level literals) literals

-- where no literal names the path, some choice of it remains
abbrev pub HasLeft : Instance → ℕ → List Literal → ℕ → Type 0
HasLeft instance level literals path = names literals path ≡ false →
    (index : ℕ) × (index < count_at instance path)
    × RemainsAt instance level literals (literal path index)

abbrev pub AllHaveLeft : Instance → ℕ → List Literal → Type 0
AllHaveLeft instance level literals =
    (path : ℕ) → path < length instance.paths → HasLeft instance level literals path
