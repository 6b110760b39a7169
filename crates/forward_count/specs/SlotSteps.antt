-- What a step does to the slots, and room for what it counts.
use Rattle.std.specs.Prelude.{ℕ, ◌*◌, ◌/◌, ◌%◌, Bool, true, false, Option, Some, None, List, slice_set}
use Rattle.fapp_model.specs.declared.literal.Literal.{Literal}
use Rattle.choice_counts.specs.declared.rows.TheConstants.{HARD}
use Rattle.choice_counts.specs.declared.totals.Totals.{Totals}
use Rattle.choice_counts.specs.Moves.{CanMove}

-- a literal's slot after it is taken back, or pushed
abbrev pub slot_after : Bool → Literal → Option ℕ
slot_after true a = None
slot_after false a = Some a.choice

abbrev pub slots_after : Bool → Literal → List (Option ℕ) → List (Option ℕ)
slots_after taking a slots = slice_set slots a.path (slot_after taking a)

-- the two parts of a literal's tally can be taken from the totals, or added to them
pub record CanCount (taking : Bool) (totals : Totals) (tally : ℕ) : Type 0 where
  pub conflicts : CanMove taking totals.conflicts (tally / HARD * 2)
  pub inside : CanMove taking totals.twice_inside (tally % HARD * 2)
