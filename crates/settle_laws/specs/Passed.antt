-- Choices of a node that are passed by.
use Rattle.std.specs.Prelude.{◌≡◌, ℕ, ◌+◌, ◌≤◌, Bool, true, false, List}
use Rattle.fapp_model.specs.declared.instance.Instance.{Instance}
use Rattle.fapp_model.specs.declared.literal.Literal.{Literal}
use Rattle.fapp_model.specs.Levels.{levels_of}
use Rattle.fapp_model.specs.search.Prefixes.{IsPrefix}
use Rattle.search_log.specs.LogStates.{LogState}
use Rattle.settle_laws.specs.declared.node.Node.{Node}
use Rattle.settle_laws.specs.Trying.{Trying}
use Rattle.settle_laws.specs.Worlds.{AreServed, World}

-- a later choice comes next, and what was so of the node is so again, where the log's lines from
-- some place on are implied
pub record Passes (instance : Instance) (first : ℕ) (literals : List Literal) (log : LogState)
    (old new : Node) : Type 0 where
  pub tag_is : new.tag ≡ old.tag
  pub path_is : new.path ≡ old.path
  pub count_is : new.count ≡ old.count
  pub later : old.choice ≤ new.choice
  pub within : new.choice ≤ new.count
  pub goes : (level : ℕ) → level ≤ levels_of instance → (entered now : World) →
      IsPrefix instance literals → now.log ≡ log → AreServed instance first log.lines →
      Trying instance level literals entered now old →
      Trying instance level literals entered now new

-- the next choice was passed by, or nothing was done
abbrev pub IsPassedBy : Instance → ℕ → List Literal → LogState → Node → Node → Bool → Type 0
IsPassedBy instance first literals log old new true =
    Passes instance first literals log old new × (new.choice ≡ old.choice + 1)
IsPassedBy instance first literals log old new false = new ≡ old
