-- What the steps of a search do.
use Rattle.std.specs.Prelude.{◌≡◌, ℕ, ◌<◌, ◌≤◌, ◌^◌, List, [], ◌∷◌, ◌++◌, Option, Some, None, Result, Ok, Err}
use Rattle.fapp_model.specs.declared.instance.Instance.{Instance}
use Rattle.fapp_model.specs.declared.literal.Literal.{Literal}
use Rattle.settle_laws.specs.declared.found.Found.{Found}
use Rattle.settle_laws.specs.declared.found.Found.TheVariants.{Dead, Settled, Moot, Spent}
use Rattle.settle_laws.specs.declared.node.Node.{Node}
use Rattle.settle_laws.specs.Founds.{Searched}
use Rattle.settle_laws.specs.OpenNodes.{IsTrying, OpenTo}
use Rattle.settle_laws.specs.Trying.{Trying}
use Rattle.settle_laws.specs.Worlds.{World}
use Rattle.subtree_search.specs.Walks.{work_left}

-- a node more, for which a tick was taken and of which no choice was tried
pub record Opens (instance : Instance) (level : ℕ) (literals : List Literal)
    (nodes after : List Node) (old new : World) : Type 0 where
  pub node : Node
  pub added : after ≡ nodes ++ node ∷ []
  pub trying : Trying instance level literals old new node
  pub few : node.count ≤ 2 ^ 16
  pub took : new.fuel < old.fuel

-- what was found at once, or a node more
abbrev pub IsVisited : {E : Type 0} → Instance → ℕ → List Literal → List Node → List Node → World →
    World → Result (Option Found) E → Type 0
IsVisited {E} instance level literals nodes after old new (Ok (Some found)) =
    (after ≡ nodes) × Searched {E = E} instance level literals old new (Ok found)
IsVisited instance level literals nodes after old new (Ok None) =
    Opens instance level literals nodes after old new
IsVisited instance level literals nodes after old new (Err e) =
    Searched instance level literals old new (Err e)

-- the choices of all open nodes are pushed, and with them this was found
abbrev pub ComesTo : {E : Type 0} → Instance → ℕ → List Literal → World → List Node → List Literal →
    World → Result Found E → Type 0
ComesTo instance level root from nodes pushed now result =
    OpenTo (λ reached entered. (pushed ≡ reached)
    × Searched instance level reached entered now result) instance level root from nodes

-- the innermost node was closed or a choice of it was tried; or it is a new one
abbrev pub IsAdvanced : {E : Type 0} → Instance → ℕ → List Literal → World → List Node →
    List Literal → World → Result (Option Found) E → Type 0
IsAdvanced {E} instance level root from nodes pushed now (Ok (Some found)) =
    ComesTo {E = E} instance level root from nodes pushed now (Ok found)
IsAdvanced instance level root from nodes pushed now (Ok None) =
    IsTrying instance level root from nodes pushed now
IsAdvanced instance level root from nodes pushed now (Err e) =
    Searched instance level root from now (Err e)

-- less is left to do, or no more where something was found
abbrev pub Lightens : {E : Type 0} → ℕ → ℕ → Result (Option Found) E → Type 0
Lightens old new (Ok (Some found)) = new ≤ old
Lightens old new (Ok None) = new < old
Lightens old new (Err e) = Unit {0}

-- where a line or a row settles the literals, or they are dead, they are pushed again
abbrev pub IsBack : Found → List Literal → List Literal → Type 0
IsBack (Dead tag) root pushed = pushed ≡ root
IsBack (Settled line tag) root pushed = pushed ≡ root
IsBack (Moot seen) root pushed = Unit {0}
IsBack Spent root pushed = Unit {0}

-- what was found is noted at the innermost node, or it is that of the whole search
abbrev pub IsNoted : {E : Type 0} → Instance → ℕ → List Literal → World → List Node → List Literal →
    World → Result (Option Found) E → Type 0
IsNoted {E} instance level root from nodes pushed now (Ok (Some end)) =
    Searched {E = E} instance level root from now (Ok end) × IsBack end root pushed
IsNoted instance level root from nodes pushed now (Ok None) =
    IsTrying instance level root from nodes pushed now
IsNoted instance level root from nodes pushed now (Err e) =
    Searched instance level root from now (Err e)

abbrev pub NotesLess : {E : Type 0} → List Node → List Node → Result (Option Found) E → Type 0
NotesLess old new (Ok (Some end)) = Unit {0}
NotesLess old new (Ok None) = (fuel : ℕ) → work_left fuel new < work_left fuel old
NotesLess old new (Err e) = Unit {0}
