-- All that a search changes, and what it keeps.
use Rattle.std.specs.Prelude.{◌≡◌, ℕ, ◌≤◌, List, ◌++◌, length, slice_get, All, Contains, Option, Some, None}
use Rattle.fapp_model.specs.declared.instance.Instance.{Instance}
use Rattle.fapp_model.specs.Costs.{cost}
use Rattle.fapp_model.specs.InstanceTags.{IsTagFor}
use Rattle.fapp_model.specs.Least.{IsFeasible}
use Rattle.fapp_model.specs.Tags.{triple_from}
use Rattle.fapp_model.specs.Triples.{IsAtMost}
use Rattle.search_log.specs.declared.line.LogLine.{LogLine}
use Rattle.search_log.specs.Contents.{content_of}
use Rattle.search_log.specs.Segments.{IsGoodLog}
use Rattle.search_log.specs.declared.log.KeptPlan.{KeptPlan}
use Rattle.search_log.specs.Bounds.{BoundState, floor, lowest}
use Rattle.search_log.specs.LogStates.{LogState}
use Rattle.search_log.specs.Shares.{IsServedContent, SharedState, known}
use Rattle.search_log.specs.GoodLogs.{IsBare}

-- the fuel, the bound, the shared rows and the log
pub record World : Type 0 where
  pub fuel : ℕ
  pub bound : BoundState
  pub shared : SharedState
  pub log : LogState

abbrev pub world : ℕ → BoundState → SharedState → LogState → World
world fuel bound shared log = record { fuel = fuel; bound = bound; shared = shared; log = log }

-- each line from some place on has literals of the instance, and is implied at its tag, which is
-- one of it
abbrev pub AreServed : Instance → ℕ → List LogLine → Type 0
AreServed instance from lines =
    (n : ℕ) (line : LogLine) → from ≤ n → slice_get lines n ≡ Some line →
    IsServedContent instance (content_of line) × IsTagFor instance line.tag

-- the log is good over the rows that are known
abbrev pub IsGoodWorld : Instance → World → Type 0
IsGoodWorld instance w = IsGoodLog instance (known w.shared) w.log.lines w.log.segments

-- lines were added at the end, and the Count lines among them have no references
pub record Gains (old new : List LogLine) : Type 0 where
  pub more : List LogLine
  pub are : new ≡ old ++ more
  pub plain : All IsBare more

-- what is kept costs as much as the least offer, or neither is there
abbrev pub IsLeastOffered : Option KeptPlan → Option ℕ → Type 0
IsLeastOffered None None = Unit {0}
IsLeastOffered None (Some tag) = ⊥
IsLeastOffered (Some best) None = ⊥
IsLeastOffered (Some best) (Some tag) = best.cost ≡ triple_from tag

-- nothing is kept, or an assignment that meets the imperative records, with its cost
abbrev pub IsKeptRight : Instance → Option KeptPlan → Type 0
IsKeptRight instance None = Unit {0}
IsKeptRight instance (Some best) =
    IsFeasible instance best.plan × (best.cost ≡ cost instance best.plan)

-- what is kept costs at most so much
abbrev pub KeepsAtMost : Option KeptPlan → ℕ → Type 0
KeepsAtMost None tag = ⊥
KeepsAtMost (Some best) tag = IsAtMost best.cost (triple_from tag)

-- What every search keeps, whatever it answers: rows and lines are only added, and nothing is
-- published; a good log is good again; neither what the bound told nor its least offer rises; what
-- is kept stays the least offer, and a true cost, where it was.
pub record Keeps (instance : Instance) (old new : World) : Type 0 where
  pub fuel : new.fuel ≤ old.fuel
  pub copied : All (Contains new.shared.copied) old.shared.copied
  pub published : new.shared.published ≡ old.shared.published
  pub takes : new.shared.takes ≡ old.shared.takes
  pub refusals : old.shared.refusals ≤ new.shared.refusals
  pub lines : Gains old.log.lines new.log.lines
  pub served : AreServed instance (length old.log.lines) new.log.lines
  pub segments : new.log.segments ≡ old.log.segments
  pub good : IsGoodWorld instance old → IsGoodWorld instance new
  pub began : new.bound.began ≡ old.bound.began
  pub tells : new.bound.told ≤ old.bound.told
  pub lowers : (tag : ℕ) → lowest tag new.bound.least ≤ lowest tag old.bound.least
  pub falls : floor new.bound ≤ floor old.bound
  pub least : IsLeastOffered old.log.best old.bound.least →
      IsLeastOffered new.log.best new.bound.least
  pub right : IsKeptRight instance old.log.best → IsKeptRight instance new.log.best
  pub better : (tag : ℕ) → KeepsAtMost old.log.best tag → KeepsAtMost new.log.best tag
