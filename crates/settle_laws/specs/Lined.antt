-- What is found of a job's prefix, once a line says so where it is dead.
use Rattle.std.specs.Prelude.{◌≡◌, ◌⊎◌, ℕ, ◌+◌, ◌-◌, ◌<◌, ◌≤◌, max, List, [], ◌∷◌, ◌++◌, length, None, Result, Ok, Err, OnOk}
use Rattle.fapp_model.specs.declared.instance.Instance.{Instance}
use Rattle.fapp_model.specs.declared.literal.Literal.{Literal}
use Rattle.search_log.specs.declared.line.LogLine.{LogLine}
use Rattle.search_log.specs.Contents.{KnownRow}
use Rattle.search_log.specs.Bounds.{floor}
use Rattle.settle_laws.specs.declared.found.Found.{Found}
use Rattle.settle_laws.specs.declared.found.Found.TheVariants.{Dead, Settled, Moot, Spent}
use Rattle.settle_laws.specs.Founds.{IsWanted, IsSettledBy, refused}
use Rattle.settle_laws.specs.Levels.{level_code}
use Rattle.settle_laws.specs.Lines.{AreSorted}
use Rattle.settle_laws.specs.Stops.{NoneFits}
use Rattle.settle_laws.specs.Ticks.{HaveCountLines, AreOffered, Ticks}
use Rattle.settle_laws.specs.Worlds.{Keeps, World}

-- one Count line on the literals, where no copied row says as much
pub record IsOneCount (instance : Instance) (literals : List Literal) (copied : List KnownRow)
    (old new : List LogLine) : Type 0 where
  pub line : LogLine
  pub added : new ≡ old ++ line ∷ []
  pub count : line.path ≡ None
  pub sorted : AreSorted instance literals line.lits
  pub rowless : NoneFits line.tag.code copied literals

-- no line, or that one
abbrev pub IsAtMostCount : Instance → List Literal → World → World → Type 0
IsAtMostCount instance literals old new =
    (new.log.lines ≡ old.log.lines) ⊎ IsOneCount instance literals new.shared.copied old.log.lines
    new.log.lines

abbrev pub IsLinedBy : {E : Type 0} → Instance → ℕ → List Literal → World → World → Result Found E →
    Type 0
IsLinedBy instance level literals old new (Ok (Dead tag)) = ⊥
IsLinedBy instance level literals old new (Ok (Settled line tag)) =
    IsSettledBy instance level literals old new line tag.code
    × (new.fuel ≡ old.fuel → IsAtMostCount instance literals old new)
IsLinedBy instance level literals old new (Ok (Moot seen)) =
    (seen.code ≡ new.bound.told) × (new.bound.told ≤ level_code level)
IsLinedBy instance level literals old new (Ok Spent) = IsWanted level new.bound × (new.fuel ≡ 0)
IsLinedBy instance level literals old new (Err e) = Unit {0}

-- with each line a tick was taken, or one line was added without
pub record Lined {E : Type 0} (instance : Instance) (level : ℕ) (literals : List Literal)
    (old new : World) (result : Result Found E) : Type 0 where
  pub keeps : Keeps instance old new
  pub few : length new.log.lines ≤ length old.log.lines + max 1 (old.fuel - new.fuel)
  pub read : new.bound.told ≤ floor old.bound
  pub is : IsLinedBy instance level literals old new result
  pub refused_at : List (List Literal)
  pub refused_count : length refused_at ≡ refused result
  pub ticks : Ticks instance level literals old new refused_at
  pub offered : OnOk result (AreOffered instance ticks.tried new.bound.least)
  pub counted : OnOk result (HaveCountLines instance ticks.tried old.log.lines new.log.lines)
