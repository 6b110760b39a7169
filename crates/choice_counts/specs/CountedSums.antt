-- What remains for literals, and the sums that are compared with a limit.
use Rattle.std.specs.Prelude.{◌≡◌, ℕ, ◌<◌, false, List, length, Contains, Option, Some, None}
use Rattle.fapp_model.specs.declared.instance.Instance.{Instance}
use Rattle.fapp_model.specs.declared.literal.Literal.{Literal}
use Rattle.fapp_model.specs.Assignments.{count_at}
use Rattle.fapp_model.specs.search.Arcs.{OutsideArc}
use Rattle.fapp_model.specs.search.Clashes.{clashes}
use Rattle.fapp_model.specs.search.Dead.{IsLeastAdded, Remains}
use Rattle.fapp_model.specs.search.Pairs.{Pair}
use Rattle.fapp_model.specs.search.Partials.{literal, names}
use Rattle.fapp_model.specs.search.Weights.{pair_with}
use Rattle.fapp_tables.specs.Measures.{pair_code}

-- a choice remains at a level: it is not outside the arcs, and not hard-bad with a literal
abbrev pub RemainsAt : Instance → ℕ → List Literal → Literal → Type 0
RemainsAt instance level literals a = Remains (OutsideArc instance level) instance level literals a

-- some remaining choice of a path adds the pair, and none adds less
abbrev pub IsLeastAt : Instance → ℕ → List Literal → ℕ → Pair → Type 0
IsLeastAt instance level literals path pair =
    IsLeastAdded (OutsideArc instance level) instance level literals path pair

-- no two literals clash, none is outside the arcs, and each further path has a choice that remains:
-- none of the first cases of dead but that of (0, 0, 0)
pub record IsCalm (instance : Instance) (level : ℕ) (literals : List Literal) : Type 0 where
  pub apart : (a b : Literal) → Contains literals a → Contains literals b →
      clashes instance level a b ≡ false
  pub within : (a : Literal) → Contains literals a → OutsideArc instance level a → ⊥
  pub remaining : (path : ℕ) → path < length instance.paths → names literals path ≡ false →
      (index : ℕ) × (index < count_at instance path)
      × RemainsAt instance level literals (literal path index)

-- the sum that a limit is compared with, as one number: the literals' pairs, and the least that
-- each further path adds
pub record IsCountedSum (instance : Instance) (level : ℕ) (literals : List Literal)
    (n : ℕ) : Type 0 where
  pub fewest : ℕ → Pair
  pub each : (path : ℕ) → path < length instance.paths → names literals path ≡ false →
      IsLeastAt instance level literals path (fewest path)
  pub is : n ≡ pair_code (pair_with instance level literals fewest)

-- the least pair of a path as one number; none where no choice of it remains
abbrev pub IsLeastSum : Instance → ℕ → List Literal → ℕ → Option ℕ → Type 0
IsLeastSum instance level literals path (Some n) =
    (pair : Pair) × IsLeastAt instance level literals path pair × (n ≡ pair_code pair)
IsLeastSum instance level literals path None =
    (index : ℕ) → index < count_at instance path →
    RemainsAt instance level literals (literal path index) → ⊥
