-- Pushed literals, and what the calls do to them.
use Rattle.std.specs.Prelude.{◌≡◌, ◌↔◌, ℕ, ◌-◌, List, [], ◌∷◌, ◌++◌, length, take, Option, Contains}
use Rattle.fapp_model.specs.declared.instance.Instance.{Instance}
use Rattle.fapp_model.specs.declared.literal.Literal.{Literal}
use Rattle.fapp_model.specs.Levels.{levels_of}
use Rattle.fapp_model.specs.search.Partials.{literal}
use Rattle.nogood.specs.Literals.{other_paths}
use Rattle.nogood.specs.Partials.{GivesChoice}

-- an instance, the level at which counts are kept, and the literals pushed, in order: the last one
-- pushed stands last
pub record ForwardState : Type 0 where
  pub instance : Instance
  pub level : ℕ
  pub pushed : List Literal

-- no literal yet, counted at the highest level
abbrev pub nothing_pushed : Instance → ForwardState
nothing_pushed instance = record { instance = instance; level = levels_of instance; pushed = [] }

-- the same instance and level with other literals
abbrev pub with_literals : ForwardState → List Literal → ForwardState
with_literals state literals =
    record { instance = state.instance; level = state.level; pushed = literals }

abbrev pub with_pushed : ForwardState → ℕ → ℕ → ForwardState
with_pushed state path choice = with_literals state (state.pushed ++ literal path choice ∷ [])

abbrev pub without_last : ForwardState → ForwardState
without_last state = with_literals state (take (length state.pushed - 1) state.pushed)

abbrev pub without_path : ForwardState → ℕ → ForwardState
without_path state path = with_literals state (other_paths path state.pushed)

abbrev pub at_level : ForwardState → ℕ → ForwardState
at_level state level = record { instance = state.instance; level = level; pushed = state.pushed }

-- choices by path, one for each path of the instance, that are those of the literals
pub record AreSlots (instance : Instance) (literals : List Literal)
    (slots : List (Option ℕ)) : Type 0 where
  pub whole : length slots ≡ length instance.paths
  pub given : (a : Literal) → GivesChoice slots a ↔ Contains literals a
