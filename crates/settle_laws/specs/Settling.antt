-- What a job comes to.
use Rattle.std.specs.Prelude.{◌≡◌, ◌⊎◌, ℕ, ◌+◌, ◌-◌, ◌<◌, ◌≤◌, max, true, List, [], ◌∷◌, ◌++◌, length, map, slice_get, All, Contains, Some, Result, Ok, Err, OnOk}
use Rattle.fapp_model.specs.declared.instance.Instance.{Instance}
use Rattle.fapp_model.specs.declared.literal.Literal.{Literal}
use Rattle.fapp_model.specs.search.Jobs.{target}
use Rattle.fapp_model.specs.search.Partials.{HasAll}
use Rattle.fapp_model.specs.search.Prefixes.{extensions}
use Rattle.fapp_model.specs.search.Tries.{IsTries}
use Rattle.search_log.specs.declared.line.LogLine.{LogLine}
use Rattle.search_log.specs.declared.line.Ref.{Ref}
use Rattle.search_log.specs.declared.line.Ref.TheVariants.{Own, Row}
use Rattle.search_log.specs.declared.line.Segment.{Segment}
use Rattle.search_log.specs.Contents.{Content, KnownRow, content_of, known_row}
use Rattle.search_log.specs.declared.job.Outcome.{Outcome}
use Rattle.search_log.specs.declared.job.Outcome.TheVariants.{Refuted, Moot, Spent}
use Rattle.search_log.specs.Bounds.{floor, lowest}
use Rattle.search_log.specs.Shares.{IsServedContent, known}
use Rattle.settle_laws.specs.Founds.{IsWanted, IsSettledBy}
use Rattle.settle_laws.specs.Levels.{level_code}
use Rattle.settle_laws.specs.Lined.{IsAtMostCount}
use Rattle.settle_laws.specs.Published.{IsShortLine}
use Rattle.settle_laws.specs.Ticks.{HaveCountLines, AreOffered, NoneWithin, Ticks}
use Rattle.settle_laws.specs.Worlds.{Gains, IsGoodWorld, IsKeptRight, IsLeastOffered, KeepsAtMost, World}

-- the segments are of the rows, in their order
abbrev pub AreHome : List KnownRow → List Segment → Type 0
AreHome rows segments =
    map (λ (row : KnownRow). row.number) rows ≡ map (λ (s : Segment). s.row) segments

-- or of all but the last of them
pub record AreAlmostHome (rows : List KnownRow) (segments : List Segment) : Type 0 where
  pub front : List KnownRow
  pub last : KnownRow
  pub rows_are : rows ≡ front ++ last ∷ []
  pub home : AreHome front segments

abbrev pub AreHomeBy : {T E : Type 0} → List KnownRow → List Segment → Result T E → Type 0
AreHomeBy rows segments (Ok _) = AreHome rows segments
AreHomeBy rows segments (Err _) = AreHome rows segments ⊎ AreAlmostHome rows segments

-- the rows that were published, and the segments that were gained
pub record Publishes {T E : Type 0} (old new : World) (result : Result T E) : Type 0 where
  pub rows : List KnownRow
  pub published : new.shared.published ≡ old.shared.published ++ rows
  pub gained : List Segment
  pub segments : new.log.segments ≡ old.log.segments ++ gained
  pub home : AreHomeBy rows gained result

-- nothing was published, and no segment was gained
pub record PublishesNone (old new : World) : Type 0 where
  pub published : new.shared.published ≡ old.shared.published
  pub segments : new.log.segments ≡ old.log.segments

-- one row with this content was published, above all that were known
pub record PublishesOne (old new : World) (content : Content) (row : ℕ) : Type 0 where
  pub published : new.shared.published ≡ old.shared.published ++ known_row row content ∷ []
  pub above : All (λ other. other.number < row) (new.shared.copied ++ old.shared.published)

-- a line that can be a row was published with its content, and ends a segment that was gained
pub record IsHomeLine (old new : World) (place : ℕ) (line : LogLine) : Type 0 where
  pub short : IsShortLine line
  pub row : ℕ
  pub publishes : PublishesOne old new (content_of line) row
  pub segments : new.log.segments ≡ old.log.segments ++ record { last = place; row = row } ∷ []

-- a line was not published; where it can be a row and offers are taken, a refusal was counted
pub record IsAway (old new : World) (line : LogLine) : Type 0 where
  pub none : PublishesNone old new
  pub refused : old.shared.takes ≡ true → IsShortLine line →
      old.shared.refusals < new.shared.refusals

-- a row was published with a content that lies within some literals and is implied, and no segment
-- was kept for it
pub record IsUnkept (instance : Instance) (literals : List Literal) (old new : World) : Type 0 where
  pub content : Content
  pub row : ℕ
  pub contained : HasAll literals content.lits
  pub served : IsServedContent instance content
  pub publishes : PublishesOne old new content row
  pub segments : new.log.segments ≡ old.log.segments

-- the line that settles a job is offered, and no row
abbrev pub IsOfferedAsRow : World → World → Ref → Type 0
IsOfferedAsRow old new (Own n) =
    (line : LogLine) × (slice_get new.log.lines n ≡ Some line)
    × (IsHomeLine old new n line ⊎ IsAway old new line)
IsOfferedAsRow old new (Row r) = PublishesNone old new

-- The log's lines are as before.
abbrev pub IsCut : World → World → Type 0
IsCut old new = new.log.lines ≡ old.log.lines

-- No fuel is left, and the lines are cut. There was less fuel than tries, and so less than prefixes
-- that go on from the literals.
pub record RunsOut (instance : Instance) (level : ℕ) (literals : List Literal)
    (old new : World) : Type 0 where
  pub is_open : IsWanted level new.bound
  pub empty : new.fuel ≡ 0
  pub cut : IsCut old new
  pub none : PublishesNone old new
  pub tries : (n : ℕ) → IsTries instance (target level) literals n → old.fuel < n
  pub prefixes : old.fuel < length (extensions instance literals)

-- so many takes of fuel were refused
abbrev pub not_taken : {E : Type 0} → Result Outcome E → ℕ
not_taken (Ok (Refuted line tag)) = 0
not_taken (Ok (Moot seen)) = 0
not_taken (Ok Spent) = 1
not_taken (Err e) = 0

-- where a line or a row settles the job
abbrev pub OnRefuted : {E : Type 0} → Result Outcome E → Type 0 → Type 0
OnRefuted (Ok (Refuted line tag)) P = P
OnRefuted (Ok (Moot seen)) P = Unit {0}
OnRefuted (Ok Spent) P = Unit {0}
OnRefuted (Err e) P = Unit {0}

-- Refuted: the line or row lies within the literals, at no lower tag; the tag is the least target,
-- and that of the last reading where no tick was taken; then at most one Count line was added. A
-- line is offered to the shared rows. Moot: what the bound told last is at most the level. After
-- all but Refuted the lines are cut; only for want of memory may a row have been published then.
abbrev pub IsOutcome : {E : Type 0} → Instance → ℕ → List Literal → World → World →
    Result Outcome E → Type 0
IsOutcome instance level literals old new (Ok (Refuted line tag)) =
    IsSettledBy instance level literals old new line tag.code
    × IsOfferedAsRow old new line
    × (new.fuel ≡ old.fuel → IsAtMostCount instance literals old new)
IsOutcome instance level literals old new (Ok (Moot seen)) =
    (seen.code ≡ new.bound.told) × (new.bound.told ≤ level_code level) × IsCut old new
    × PublishesNone old new
IsOutcome instance level literals old new (Ok Spent) = RunsOut instance level literals old new
IsOutcome instance level literals old new (Err e) =
    IsCut old new × (PublishesNone old new ⊎ IsUnkept instance literals old new)

-- What a job's search keeps and finds, and at which prefixes ticks were taken or, at the end, one
-- was refused. Whatever it finds, the bound was read, and the cost of each assignment that a tick
-- fell on was offered, or less; where the job is refuted, it has its Count line.
pub record Settles {E : Type 0} (instance : Instance) (level : ℕ) (literals : List Literal)
    (old new : World) (result : Result Outcome E) : Type 0 where
  pub fuel : new.fuel ≤ old.fuel
  pub copied : All (Contains new.shared.copied) old.shared.copied
  pub publishes : Publishes old new result
  pub takes : new.shared.takes ≡ old.shared.takes
  pub refusals : old.shared.refusals ≤ new.shared.refusals
  pub lines : Gains old.log.lines new.log.lines
  pub few : length new.log.lines ≤ length old.log.lines + max 1 (old.fuel - new.fuel)
  pub good : IsGoodWorld instance old → IsGoodWorld instance new
  pub began : new.bound.began ≡ old.bound.began
  pub tells : new.bound.told ≤ old.bound.told
  pub lowers : (tag : ℕ) → lowest tag new.bound.least ≤ lowest tag old.bound.least
  pub falls : floor new.bound ≤ floor old.bound
  pub least : IsLeastOffered old.log.best old.bound.least →
      IsLeastOffered new.log.best new.bound.least
  pub right : IsKeptRight instance old.log.best → IsKeptRight instance new.log.best
  pub better : (tag : ℕ) → KeepsAtMost old.log.best tag → KeepsAtMost new.log.best tag
  pub read : OnOk result (new.bound.told ≤ floor old.bound)
  pub is : IsOutcome instance level literals old new result
  pub refused_at : List (List Literal)
  pub refused_count : length refused_at ≡ not_taken result
  pub ticks : Ticks instance level literals old new refused_at
  pub offered : OnOk result (AreOffered instance ticks.tried new.bound.least)
  pub counted : OnRefuted result (HaveCountLines instance ticks.tried old.log.lines new.log.lines)
  pub fresh : 0 < length ticks.asked → NoneWithin level (known old.shared) literals
