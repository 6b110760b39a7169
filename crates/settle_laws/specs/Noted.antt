-- What is noted of the choice that was tried.
use Rattle.std.specs.Prelude.{◌≡◌, ℕ, ◌+◌, min, List, [], ◌∷◌, ◌++◌, Option, Some, None, Result, Ok, Err}
use Rattle.search_log.specs.declared.line.ChoiceRef.{ChoiceRef}
use Rattle.search_log.specs.declared.line.Ref.{Ref}
use Rattle.settle_laws.specs.declared.found.Found.{Found}
use Rattle.settle_laws.specs.declared.found.Found.TheVariants.{Dead, Settled, Moot, Spent}
use Rattle.settle_laws.specs.declared.node.Node.{Node}
use Rattle.settle_laws.specs.Founds.{refused}

-- the next choice comes next, and the tag is lowered to that at which this one was judged
pub record Goes (old new : Node) (tag : ℕ) (refs : List ChoiceRef) : Type 0 where
  pub tag_is : new.tag.code ≡ min old.tag.code tag
  pub path_is : new.path ≡ old.path
  pub choice_is : new.choice ≡ old.choice + 1
  pub count_is : new.count ≡ old.count
  pub refs_are : new.refs ≡ refs

abbrev pub by_choice : ℕ → Ref → ChoiceRef
by_choice choice line = record { choice = choice; line = line }

-- what is dead is left out, what settles the choice is listed, and nothing else lets the search go
-- on
abbrev pub Notes : Node → Node → Found → Option Found → Type 0
Notes old new (Dead tag) end = (end ≡ None) × Goes old new tag.code old.refs
Notes old new (Settled line tag) end =
    (end ≡ None) × Goes old new tag.code (old.refs ++ by_choice old.choice line ∷ [])
Notes old new (Moot seen) end = end ≡ Some (Moot seen)
Notes old new Spent end = end ≡ Some Spent

-- nothing more is searched
abbrev pub IsEnding : {E : Type 0} → Result Found E → Type 0
IsEnding (Ok (Dead tag)) = ⊥
IsEnding (Ok (Settled line tag)) = ⊥
IsEnding (Ok (Moot seen)) = Unit {0}
IsEnding (Ok Spent) = Unit {0}
IsEnding (Err e) = Unit {0}

-- or there was no memory, where no fuel was refused
abbrev pub NotesBy : {E : Type 0} → Node → Node → Found → Result (Option Found) E → Type 0
NotesBy old new found (Ok end) = Notes old new found end
NotesBy {E} old new found (Err e) = refused {E = E} (Ok found) ≡ 0
