-- The prefixes at which fuel was asked for.
use Rattle.std.specs.Prelude.{◌≡◌, ◌⊎◌, ℕ, ◌+◌, ◌-◌, ◌<◌, ◌≤◌, List, [], ◌∷◌, ◌++◌, length, take, slice_get, All, Contains, Option, Some, None}
use Rattle.fapp_model.specs.declared.instance.Instance.{Instance}
use Rattle.fapp_model.specs.declared.literal.Literal.{Literal}
use Rattle.fapp_model.specs.Costs.{cost}
use Rattle.fapp_model.specs.Tags.{code_of}
use Rattle.fapp_model.specs.search.Jobs.{target}
use Rattle.fapp_model.specs.search.Partials.{HasAll, literal}
use Rattle.fapp_model.specs.search.Prefixes.{GoesOn}
use Rattle.tries_laws.specs.TriesLaws.{AreTried}
use Rattle.search_log.specs.declared.line.LogLine.{LogLine}
use Rattle.search_log.specs.Contents.{KnownRow}
use Rattle.settle_laws.specs.Levels.{level_code}
use Rattle.settle_laws.specs.Stops.{AreStops, IsUndecided, IsWholePrefix, NoneFits, stop_at}
use Rattle.settle_laws.specs.Worlds.{KeepsAtMost, World}

-- no row lies within some literals at a tag of at least the level's target
abbrev pub NoneWithin : ℕ → List KnownRow → List Literal → Type 0
NoneWithin level rows literals = NoneFits (level_code (level + 1)) rows literals

-- each prefix longer than one stands behind that which is one shorter
abbrev pub StandBehind : List Literal → List (List Literal) → Type 0
StandBehind prefix asked =
    (place : ℕ) (literals : List Literal) → slice_get asked place ≡ Some literals →
    length prefix < length literals →
    Contains (take place asked) (take (length literals - 1) literals)

-- The cost of an assignment is the least offer, and the log keeps one that costs no more. A tick
-- fell on the prefix that names all its choices.
pub record OffersCost (instance : Instance) (tried : List (List Literal))
    (new : World) : Type 0 where
  pub plan : List ℕ
  pub prefix : List Literal
  pub ticked : Contains tried prefix
  pub whole : IsWholePrefix instance prefix plan
  pub offered : new.bound.least ≡ Some (code_of (cost instance plan))
  pub kept : KeepsAtMost new.log.best (code_of (cost instance plan))

-- something was offered that is at most so much
abbrev pub OfferedAtMost : Option ℕ → ℕ → Type 0
OfferedAtMost None tag = ⊥
OfferedAtMost (Some least) tag = least ≤ tag

-- the cost of each assignment that is one of some prefixes was offered, or less
abbrev pub AreOffered : Instance → List (List Literal) → Option ℕ → Type 0
AreOffered instance tried least =
    All (λ prefix. (plan : List ℕ) → IsWholePrefix instance prefix plan →
    OfferedAtMost least (code_of (cost instance plan))) tried

-- a Count line at so much was gained, within a prefix
pub record GainsCount (old new : List LogLine) (prefix : List Literal) (code : ℕ) : Type 0 where
  pub place : ℕ
  pub line : LogLine
  pub gained : length old ≤ place
  pub there : slice_get new place ≡ Some line
  pub count : line.path ≡ None
  pub tag : line.tag.code ≡ code
  pub within : HasAll prefix line.lits

-- each assignment that is one of some prefixes has a Count line at its cost
abbrev pub HaveCountLines : Instance → List (List Literal) → List LogLine → List LogLine → Type 0
HaveCountLines instance tried old new =
    All (λ prefix. (plan : List ℕ) → IsWholePrefix instance prefix plan →
    GainsCount old new prefix (code_of (cost instance plan))) tried

-- The prefixes at which ticks fell, in order, as many as the fuel fell by; and behind them those at
-- which fuel was refused. They go on from a prefix, each once and behind the one that is one
-- shorter, none dead at the level's target (as the law of tries asks). At each of them neither what
-- the bound told, nor the rows copied by then, nor the test whether it is dead decided; where fuel
-- was refused, nothing changed after. The least offer, where it fell, was made at such a tick.
pub record Ticks (instance : Instance) (level : ℕ) (prefix : List Literal) (old new : World)
    (refused : List (List Literal)) : Type 0 where
  pub tried : List (List Literal)
  pub asked : List (List Literal)
  pub asked_is : asked ≡ tried ++ refused
  pub taken : length tried + new.fuel ≡ old.fuel
  pub are : AreTried instance (target level) prefix asked
  pub behind : StandBehind prefix asked
  pub stops : AreStops instance level old new asked
  pub last : All (λ literals. IsUndecided instance level (stop_at new literals)) refused
  pub offers : (new.bound.least ≡ old.bound.least) ⊎ OffersCost instance tried new

-- a prefix itself, or one that goes on from it by an earlier choice of the path
abbrev pub IsEarlier : List Literal → ℕ → ℕ → List Literal → Type 0
IsEarlier prefix path index literals =
    (literals ≡ prefix) ⊎ ((i : ℕ) × (i < index) × GoesOn (prefix ++ literal path i ∷ []) literals)

-- ticks at a prefix and at those that go on by the earlier choices of the next path, none refused;
-- what they cost was offered and has its line
pub record TicksBelow (instance : Instance) (level : ℕ) (prefix : List Literal) (path index : ℕ)
    (old new : World) : Type 0 where
  pub ticks : Ticks instance level prefix old new []
  pub begins : Contains ticks.asked prefix
  pub each : All (IsEarlier prefix path index) ticks.asked
  pub offered : AreOffered instance ticks.tried new.bound.least
  pub counted : HaveCountLines instance ticks.tried old.log.lines new.log.lines
