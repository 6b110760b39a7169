-- What the search finds of some literals.
use Rattle.std.specs.Prelude.{◌≡◌, ℕ, ◌+◌, ◌<◌, ◌≤◌, List, length, Result, Ok, Err, OnOk}
use Rattle.fapp_model.specs.declared.instance.Instance.{Instance}
use Rattle.fapp_model.specs.declared.literal.Literal.{Literal}
use Rattle.fapp_model.specs.Tags.{IsTagOf, triple_from}
use Rattle.fapp_model.specs.search.Dead.{Dead}
use Rattle.fapp_model.specs.search.Partials.{HasAll}
use Rattle.search_log.specs.declared.line.LogLine.{LogLine}
use Rattle.search_log.specs.declared.line.Ref.{Ref}
use Rattle.search_log.specs.declared.line.Ref.TheVariants.{Own, Row}
use Rattle.search_log.specs.Contents.{Cites, Content, KnownRow}
use Rattle.search_log.specs.Bounds.{BoundState, floor}
use Rattle.search_log.specs.Shares.{IsServedContent}
use Rattle.settle_laws.specs.declared.found.Found.{Found}
use Rattle.settle_laws.specs.declared.found.Found.TheVariants.{Dead as FoundDead, Settled, Moot, Spent}
use Rattle.settle_laws.specs.Levels.{level_code, target_code}
use Rattle.settle_laws.specs.Stops.{NoneFits}
use Rattle.settle_laws.specs.Ticks.{HaveCountLines, AreOffered, Ticks}
use Rattle.settle_laws.specs.Worlds.{Keeps, World}

-- a line's tag is one of the instance
abbrev pub HasOwnTag : Instance → Ref → Content → Type 0
HasOwnTag instance (Own n) content = IsTagOf instance (triple_from content.tag)
HasOwnTag instance (Row r) content = Unit {0}

-- what a reference names lies within some literals, has at least the tag, and is implied at its own
pub record IsRefuted (instance : Instance) (rows : List KnownRow) (lines : List LogLine)
    (literals : List Literal) (line : Ref) (tag : ℕ) : Type 0 where
  pub content : Content
  pub cited : Cites rows lines line content
  pub reaches : tag ≤ content.tag
  pub contained : HasAll literals content.lits
  pub served : IsServedContent instance content
  pub own : HasOwnTag instance line content

-- the lesser of the level's target and of what the bound told last or was offered
abbrev pub IsTarget : ℕ → BoundState → ℕ → Type 0
IsTarget level bound tag = tag ≡ target_code level (floor bound)

-- the bound that was told last leaves something to find at the level
abbrev pub IsWanted : ℕ → BoundState → Type 0
IsWanted level bound = level_code level < bound.told

-- a line of the log is one of those that were added, and the last; where a row is named, no tick
-- was taken and no line was added
abbrev pub IsLastRef : World → World → Ref → Type 0
IsLastRef old new (Own n) = (length old.log.lines ≤ n) × (n + 1 ≡ length new.log.lines)
IsLastRef old new (Row r) = (new.fuel ≡ old.fuel) × (new.log.lines ≡ old.log.lines)

-- where no tick was taken the tag is the target
abbrev pub IsExact : ℕ → World → World → ℕ → Type 0
IsExact level old new tag = new.fuel ≡ old.fuel → tag ≡ target_code level new.bound.told

-- A line or a row settles some literals. Its tag is the lesser of the level's target and of what
-- the bound told last or was offered: where the bound is read at each part, the least of the
-- targets that the parts were judged at.
pub record IsSettledBy (instance : Instance) (level : ℕ) (literals : List Literal) (old new : World)
    (line : Ref) (tag : ℕ) : Type 0 where
  pub is_open : IsWanted level new.bound
  pub target : IsTarget level new.bound tag
  pub exact : IsExact level old new tag
  pub refuted : IsRefuted instance new.shared.copied new.log.lines literals line tag
  pub last : IsLastRef old new line

-- some literals are dead at the target, where no copied row says so
pub record IsFoundDead (instance : Instance) (level : ℕ) (literals : List Literal) (old new : World)
    (tag : ℕ) : Type 0 where
  pub is_open : IsWanted level new.bound
  pub target : IsTarget level new.bound tag
  pub exact : tag ≡ target_code level new.bound.told
  pub rowless : NoneFits tag new.shared.copied literals
  pub dead : Dead instance (triple_from tag) literals
  pub fuel : new.fuel ≡ old.fuel
  pub lines : new.log.lines ≡ old.log.lines

-- so many takes of fuel were refused
abbrev pub refused : {E : Type 0} → Result Found E → ℕ
refused (Ok (FoundDead tag)) = 0
refused (Ok (Settled line tag)) = 0
refused (Ok (Moot seen)) = 0
refused (Ok Spent) = 1
refused (Err e) = 0

-- Dead comes with the target, settled with the least target, Moot with the bound that was told
-- last, Spent without fuel
abbrev pub IsFoundBy : {E : Type 0} → Instance → ℕ → List Literal → World → World → Result Found E →
    Type 0
IsFoundBy instance level literals old new (Ok (FoundDead tag)) =
    IsFoundDead instance level literals old new tag.code
IsFoundBy instance level literals old new (Ok (Settled line tag)) =
    IsSettledBy instance level literals old new line tag.code
IsFoundBy instance level literals old new (Ok (Moot seen)) =
    (seen.code ≡ new.bound.told) × (new.bound.told ≤ level_code level)
IsFoundBy instance level literals old new (Ok Spent) = IsWanted level new.bound × (new.fuel ≡ 0)
IsFoundBy instance level literals old new (Err e) = Unit {0}

-- what was found, what was kept, and at which prefixes ticks were taken or refused; with each line
-- at least one was taken, the bound was read, and the cost of each assignment that a tick fell on
-- was offered, or less, and it has its line
pub record Searched {E : Type 0} (instance : Instance) (level : ℕ) (literals : List Literal)
    (old new : World) (result : Result Found E) : Type 0 where
  pub keeps : Keeps instance old new
  pub few : length new.log.lines + new.fuel ≤ length old.log.lines + old.fuel
  pub read : new.bound.told ≤ floor old.bound
  pub is : IsFoundBy instance level literals old new result
  pub refused_at : List (List Literal)
  pub refused_count : length refused_at ≡ refused result
  pub ticks : Ticks instance level literals old new refused_at
  pub offered : OnOk result (AreOffered instance ticks.tried new.bound.least)
  pub counted : OnOk result (HaveCountLines instance ticks.tried old.log.lines new.log.lines)
