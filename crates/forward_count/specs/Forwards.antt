-- What a Forward keeps.
use Rattle.std.specs.Prelude.{◌≤◌, ℕ, List, Option, length}
use Rattle.fapp_model.specs.declared.instance.Instance.{Instance}
use Rattle.fapp_model.specs.declared.literal.Literal.{Literal}
use Rattle.fapp_model.specs.Instances.{IsInstance}
use Rattle.fapp_model.specs.Levels.{levels_of}
use Rattle.fapp_model.specs.search.Partials.{IsPartial}
use Rattle.choice_counts.specs.declared.rows.PathTallies.{PathTallies}
use Rattle.choice_counts.specs.declared.totals.Totals.{Totals}
use Rattle.choice_counts.specs.ForwardStates.{AreSlots}
use Rattle.choice_counts.specs.Kept.{AreKept}

-- the counts of the literals, for a valid instance, and room for a literal of each path
pub record IsForward (instance : Instance) (level : ℕ) (pushed : List Literal)
    (slots : List (Option ℕ)) (rows : List PathTallies) (totals : Totals) (room : ℕ) : Type 0 where
  pub valid : IsInstance instance
  pub low : level ≤ levels_of instance
  pub partial : IsPartial instance pushed
  pub kept : AreKept instance level pushed slots rows totals
  pub roomy : length instance.paths ≤ room

-- literals of a valid instance, and a level of it
pub record IsAfresh (instance : Instance) (level : ℕ) (pushed : List Literal)
    (slots : List (Option ℕ)) : Type 0 where
  pub valid : IsInstance instance
  pub low : level ≤ levels_of instance
  pub partial : IsPartial instance pushed
  pub held : AreSlots instance pushed slots
