-- Partial assignments from which nothing that costs less than a tag is left. What stands outside is
-- a parameter: choices outside the arcs of the tag's level, or choices that a certificate excludes.
use Rattle.std.specs.Prelude.{◌≡◌, ◌⊎◌, ℕ, ◌<◌, false, List, length, Contains, IsTrue}
use Rattle.fapp_model.specs.declared.instance.Instance.{Instance}
use Rattle.fapp_model.specs.declared.literal.Literal.{Literal}
use Rattle.fapp_model.specs.declared.triple.Triple.{Triple}
use Rattle.fapp_model.specs.search.Arcs.{OutsideArc}
use Rattle.fapp_model.specs.Assignments.{count_at}
use Rattle.fapp_model.specs.search.Clashes.{clashes, clashes_with}
use Rattle.fapp_model.specs.search.Pairs.{Pair, IsPairAtMost, limit_of}
use Rattle.fapp_model.specs.search.Partials.{literal, names}
use Rattle.fapp_model.specs.Tags.{least_tag, has_limit, mode_level}
use Rattle.fapp_model.specs.search.Weights.{added_pair, pair_with}

-- a choice that is not outside, and has no hard-bad record between it and the literals
pub record Remains (outside : Literal → Type 0) (instance : Instance) (level : ℕ)
    (literals : List Literal) (a : Literal) : Type 0 where
  pub kept : outside a → ⊥
  pub free : clashes_with instance level literals a ≡ false

-- some remaining choice of a path adds the pair, and none adds less
pub record IsLeastAdded (outside : Literal →
    Type 0) (instance : Instance) (level : ℕ) (literals : List Literal) (path : ℕ)
    (pair : Pair) : Type 0 where
  pub index : ℕ
  pub in_range : index < count_at instance path
  pub remains : Remains outside instance level literals (literal path index)
  pub reached : added_pair instance level literals (literal path index) ≡ pair
  pub least : (other : ℕ) → other < count_at instance path →
      Remains outside instance level literals (literal path other) →
      IsPairAtMost pair (added_pair instance level literals (literal path other))

pub data DeadBy (outside : Literal → Type 0) (instance : Instance) (t : Triple)
    (literals : List Literal) : Type 0 where
  -- nothing costs less than (0, 0, 0)
  least : t ≡ least_tag → DeadBy outside instance t literals
  -- a record between two literals is hard-bad
  clash : (a b : Literal) → Contains literals a → Contains literals b →
      IsTrue (clashes instance (mode_level t) a b) →
      DeadBy outside instance t literals
  -- a literal is outside
  outside_literal : (a : Literal) → Contains literals a → outside a →
      DeadBy outside instance t literals
  -- each choice of a path that no literal names is outside, or hard-bad with a literal
  no_choice_left : (path : ℕ) → path < length instance.paths → names literals path ≡ false →
      ((index : ℕ) → index < count_at instance path →
      outside (literal path index) ⊎ IsTrue (clashes_with instance (mode_level t) literals
      (literal path index))) →
      DeadBy outside instance t literals
  -- the literals' pairs and the least that each further path adds come to the limit
  over_limit : IsTrue (has_limit t) → (least : ℕ → Pair) →
      ((path : ℕ) → path < length instance.paths → names literals path ≡ false →
      IsLeastAdded outside instance (mode_level t) literals path (least path)) →
      IsPairAtMost (limit_of t) (pair_with instance (mode_level t) literals least) →
      DeadBy outside instance t literals

-- dead by the arcs of the tag's level
abbrev pub Dead : Instance → Triple → List Literal → Type 0
Dead instance t literals = DeadBy (OutsideArc instance (mode_level t)) instance t literals
