-- Assignments: one choice for each path.
use Rattle.std.specs.Prelude.{◌≡◌, ℕ, ◌<◌, Bool, not, List, [], length, pos, slice_index, slice_index_or}
use Rattle.std.specs.List.{list_all}
use Rattle.fapp_model.specs.declared.instance.Path.{Path}
use Rattle.fapp_model.specs.declared.instance.Instance.{Instance}
use Rattle.fapp_model.specs.declared.choice.Choice.{Choice}
use Rattle.fapp_model.specs.declared.record.Record.{Record}
use Rattle.fapp_model.specs.Choices.{choices, choice}
use Rattle.fapp_model.specs.Records.{first_path, second_path, is_broken, is_bad}

-- what stands past the end of a list of paths
abbrev pub no_path : Path
no_path = record { number = 0; freqs = []; pol = pos 0 }

-- the path at a position
abbrev pub path_at : Instance → ℕ → Path
path_at instance position = slice_index_or instance.paths position no_path

-- how many choices the path at a position has
abbrev pub count_at : Instance → ℕ → ℕ
count_at instance position = length (choices (path_at instance position))

-- one choice index for each path, below the path's number of choices
pub record IsAssignment (instance : Instance) (plan : List ℕ) : Type 0 where
  pub whole : length plan ≡ length instance.paths
  pub in_range : (position : ℕ) → position < length instance.paths →
      slice_index plan position < count_at instance position

-- what a plan chooses at a position
abbrev pub chosen : Instance → List ℕ → ℕ → Choice
chosen instance plan position = choice (path_at instance position) (slice_index plan position)

-- a plan breaks an imperative record
abbrev pub breaks : Instance → List ℕ → Record → Bool
breaks instance plan r =
    is_broken r (chosen instance plan (first_path r)) (chosen instance plan (second_path r))

-- a plan breaks no imperative record
abbrev pub meets : Instance → List ℕ → Bool
meets instance plan = list_all (λ r. not (breaks instance plan r)) instance.records

-- a plan makes a compatibility record bad at a level
abbrev pub violates : Instance → List ℕ → ℕ → Record → Bool
violates instance plan level r =
    is_bad level r (chosen instance plan (first_path r)) (chosen instance plan (second_path r))
