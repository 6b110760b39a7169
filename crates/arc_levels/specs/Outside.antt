-- At which levels choices are outside the arcs.
use Rattle.std.specs.Prelude.{◌≡◌, ◌↔◌, ℕ, ◌+◌, ◌<◌, ◌≤◌, length}
use Rattle.fapp_model.specs.declared.instance.Instance.{Instance}
use Rattle.fapp_model.specs.declared.literal.Literal.{Literal}
use Rattle.fapp_model.specs.declared.triple.Triple.{Triple}
use Rattle.fapp_model.specs.Assignments.{count_at}
use Rattle.fapp_model.specs.Instances.{IsInstance}
use Rattle.fapp_model.specs.Levels.{levels_of}
use Rattle.fapp_model.specs.search.Arcs.{OutsideArc}
use Rattle.fapp_model.specs.search.Partials.{literal}

-- a choice is outside the arcs of exactly so many levels, the lowest ones
pub record IsOutsideBelow (instance : Instance) (a : Literal) (n : ℕ) : Type 0 where
  pub few : n ≤ levels_of instance + 1
  pub levels : (level : ℕ) → level ≤ levels_of instance → OutsideArc instance level a ↔ (level < n)

-- the tag of a choice: (l + 1, 0, 0) for the greatest level l at which it is outside the arcs, else
-- (0, 0, 0)
pub record IsOutsideTag (instance : Instance) (a : Literal) (t : Triple) : Type 0 where
  pub levels : IsOutsideBelow instance a t.k
  pub limit : t.v ≡ 0
  pub further : t.s ≡ 0

-- some path has each of its choices outside the arcs of a level
pub record HasNoChoice (instance : Instance) (level : ℕ) : Type 0 where
  pub path : ℕ
  pub inside : path < length instance.paths
  pub outside : (index : ℕ) → index < count_at instance path →
      OutsideArc instance level (literal path index)

-- the tag of no choices at all: (l + 1, 0, 0) for the greatest level l at which some path has no
-- choice in the arcs, else (0, 0, 0)
pub record IsRootTag (instance : Instance) (t : Triple) : Type 0 where
  pub few : t.k ≤ levels_of instance + 1
  pub levels : (level : ℕ) → level ≤ levels_of instance → HasNoChoice instance level ↔ (level < t.k)
  pub limit : t.v ≡ 0
  pub further : t.s ≡ 0

-- What is outside the arcs of a level is outside those of each lower one.
abbrev pub OutsideAtLowerLevels : Type 0
OutsideAtLowerLevels =
    (instance : Instance) (low high : ℕ) (a : Literal) → IsInstance instance → low ≤ high →
    OutsideArc instance high a → OutsideArc instance low a
