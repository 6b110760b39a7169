-- The line that settles some literals.
use Rattle.std.specs.Prelude.{◌≡◌, ◌⊎◌, ℕ, List, [], length, Option, None, Result, Ok, Err}
use Rattle.fapp_model.specs.declared.instance.Instance.{Instance}
use Rattle.fapp_model.specs.declared.literal.Literal.{Literal}
use Rattle.fapp_model.specs.declared.tag.Tag.{Tag}
use Rattle.fapp_model.specs.Costs.{cost}
use Rattle.fapp_model.specs.Least.{IsFeasible}
use Rattle.fapp_model.specs.Tags.{code_of}
use Rattle.fapp_model.specs.search.Partials.{AreLiterals, Extends, HasAll}
use Rattle.search_log.specs.declared.line.ChoiceRef.{ChoiceRef}
use Rattle.search_log.specs.declared.line.LogLine.{LogLine}
use Rattle.search_log.specs.declared.line.Ref.TheVariants.{Own}
use Rattle.search_log.specs.Bounds.{BoundState, Offers}
use Rattle.search_log.specs.LogStates.{LogState}
use Rattle.search_log.specs.Logs.{KeepsBest, log_with_line}
use Rattle.settle_laws.specs.declared.found.Found.{Found}
use Rattle.settle_laws.specs.declared.found.Found.TheVariants.{Settled}
use Rattle.settle_laws.specs.Explained.{IsDeadPart}

-- the literals pushed, ascending by path
pub record AreSorted (instance : Instance) (pushed literals : List Literal) : Type 0 where
  pub are : AreLiterals instance literals
  pub has : HasAll literals pushed
  pub only : HasAll pushed literals

-- a line on the literals was added, and it is what was found
pub record AddsLine (instance : Instance) (literals : List Literal) (tag : Tag) (path : Option ℕ)
    (refs : List ChoiceRef) (old new : LogState) (found : Found) : Type 0 where
  pub line : LogLine
  pub added : new ≡ log_with_line old line
  pub sorted : AreSorted instance literals line.lits
  pub tag_is : line.tag ≡ tag
  pub path_is : line.path ≡ path
  pub refs_are : line.refs ≡ refs
  pub found_is : found ≡ Settled (Own (length old.lines)) tag

-- a line was added, or none for want of memory
abbrev pub IsLined : {E : Type 0} → Instance → List Literal → Tag → Option ℕ → List ChoiceRef →
    LogState → LogState → Result Found E → Type 0
IsLined instance literals tag path refs old new (Ok found) =
    AddsLine instance literals tag path refs old new found
IsLined instance literals tag path refs old new (Err e) = new ≡ old

-- an assignment that has the literals was given to the log with its cost, and then its cost was
-- offered
pub record OffersPlan (instance : Instance) (literals : List Literal) (bound after : BoundState)
    (old new : LogState) : Type 0 where
  pub plan : List ℕ
  pub feasible : IsFeasible instance plan
  pub extends : Extends plan literals
  pub keeps : KeepsBest old (cost instance plan) plan new
  pub offers : Offers bound after (code_of (cost instance plan))

-- then a Count line at that cost was added, on literals that are dead at it
pub record Concludes (instance : Instance) (literals : List Literal) (bound after : BoundState)
    (old new : LogState) (found : Found) : Type 0 where
  pub kept : LogState
  pub tag : Tag
  pub offered : OffersPlan instance literals bound after old kept
  pub tag_is : tag.code ≡ code_of (cost instance offered.plan)
  pub fewer : List Literal
  pub part : IsDeadPart instance tag.code literals fewer
  pub adds : AddsLine instance fewer tag None [] kept new found

-- or there was no memory, to keep it or for the line
abbrev pub IsConcluded : {E : Type 0} → Instance → List Literal → BoundState → BoundState →
    LogState → LogState → Result Found E → Type 0
IsConcluded instance literals bound after old new (Ok found) =
    Concludes instance literals bound after old new found
IsConcluded instance literals bound after old new (Err e) =
    ((after ≡ bound) × (new ≡ old)) ⊎ OffersPlan instance literals bound after old new
