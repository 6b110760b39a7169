-- The line of a node that a row settles.
use Rattle.std.specs.Prelude.{◌≡◌, ℕ, ◌<◌, List, length, get_or, Some, Result, Ok, Err}
use Rattle.fapp_model.specs.declared.instance.Instance.{Instance}
use Rattle.fapp_model.specs.declared.tag.Tag.{Tag}
use Rattle.search_log.specs.declared.line.ChoiceRef.{ChoiceRef}
use Rattle.search_log.specs.declared.line.Ref.{Ref}
use Rattle.search_log.specs.declared.line.Ref.TheVariants.{Row}
use Rattle.nogood.specs.Rows.{row_literals}
use Rattle.search_log.specs.declared.shared.Cite.{Cite}
use Rattle.search_log.specs.LogStates.{LogState}
use Rattle.settle_laws.specs.declared.found.Found.{Found}
use Rattle.settle_laws.specs.Lines.{AddsLine}
use Rattle.settle_laws.specs.Noted.{by_choice}

-- each choice below a count has the same reference
pub record AreAll (count : ℕ) (line : Ref) (refs : List ChoiceRef) : Type 0 where
  pub as_many : length refs ≡ count
  pub each : (i : ℕ) (d : ChoiceRef) → i < count → get_or refs i d ≡ by_choice i line

-- a line on the row's literals was added, and each choice of the path has the row
pub record AddsByRow (instance : Instance) (cite : Cite) (tag : Tag) (path count : ℕ)
    (old new : LogState) (found : Found) : Type 0 where
  pub refs : List ChoiceRef
  pub all : AreAll count (Row cite.row) refs
  pub adds : AddsLine instance (row_literals cite.content) tag (Some path) refs old new found

-- or none, for want of memory
abbrev pub IsLinedByRow : {E : Type 0} → Instance → Cite → Tag → ℕ → ℕ → LogState → LogState →
    Result Found E → Type 0
IsLinedByRow instance cite tag path count old new (Ok found) =
    AddsByRow instance cite tag path count old new found
IsLinedByRow instance cite tag path count old new (Err e) = new ≡ old
