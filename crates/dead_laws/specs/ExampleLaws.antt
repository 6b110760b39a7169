-- Arcs and dead partial assignments of instances where they are known.
use Rattle.std.specs.Prelude.{◌≡◌, ℕ, ◌+◌, ◌<◌, ◌≤◌, List, [], ◌∷◌}
use Rattle.fapp_model.specs.declared.instance.Instance.{Instance}
use Rattle.fapp_model.specs.declared.literal.Literal.{Literal}
use Rattle.fapp_model.specs.declared.triple.Triple.{Triple}
use Rattle.fapp_model.specs.search.Arcs.{InArc, OutsideArc}
use Rattle.fapp_model.specs.Assignments.{count_at}
use Rattle.fapp_model.specs.search.Dead.{Dead, IsLeastAdded}
use Rattle.fapp_model.specs.Instances.{IsInstance}
use Rattle.fapp_model.specs.search.Pairs.{Pair}
use Rattle.fapp_model.specs.search.Partials.{literal}
use Rattle.fapp_model.specs.search.Weights.{pair_with}
use Rattle.dead_laws.specs.ExampleInstances.{three_alike, tied_pair}

-- a triple by its numbers
abbrev pub tag : ℕ → ℕ → ℕ → Triple
tag k v s = record { k = k; v = v; s = s }

pub record ExamplesAreValid : Type 0 where
  pub tied_pair : IsInstance tied_pair
  pub three_alike : IsInstance three_alike

-- ---- equal polarizations that are demanded and too close

-- outside the arcs of each level up to 10, and in those of level 11
pub record EntersLast (instance : Instance) (a : Literal) : Type 0 where
  pub outside : (level : ℕ) → level ≤ 10 → OutsideArc instance level a
  pub inside : InArc instance 11 a

pub record TiedPairArcs : Type 0 where
  pub first : EntersLast tied_pair (literal 0 0)
  pub unequal : (level : ℕ) → level ≤ 11 → OutsideArc tied_pair level (literal 1 0)
  pub equal : EntersLast tied_pair (literal 1 1)

-- Up to level 10 the first path has no choice in the arcs, and at level 11 each path has one.
pub record TiedPairRoots : Type 0 where
  pub none : (level : ℕ) → level ≤ 10 → (index : ℕ) → index < count_at tied_pair 0 →
      OutsideArc tied_pair level (literal 0 index)
  pub some : (path : ℕ) → path < 2 → (index : ℕ) × InArc tied_pair 11 (literal path index)

-- ---- three paths of which two have one frequency

-- one choice leaves the others the other frequency
abbrev pub OneChoiceLives : Type 0
OneChoiceLives = Dead three_alike (tag 11 0 0) (literal 0 0 ∷ []) → ⊥

-- the two frequencies on the first two paths
abbrev pub unlike : List Literal
unlike = literal 0 0 ∷ literal 1 1 ∷ []

-- They leave the third path nothing at level 10. At level 11 they leave it one record that is bad
-- at all eleven levels.
pub record UnlikeTags : Type 0 where
  pub level : Dead three_alike (tag 11 0 0) unlike
  pub limit : Dead three_alike (tag 11 1 10) unlike
  pub greater_limit : Dead three_alike (tag 11 1 11) unlike → ⊥

-- a violation of level 10 and of ten levels below
abbrev pub eleven_levels : Pair
eleven_levels = record { v = 1; s = 10 }

-- The third path adds that much, and the two nothing.
pub record UnlikeSum : Type 0 where
  pub least : IsLeastAdded (OutsideArc three_alike 11) three_alike 11 unlike 2 eleven_levels
  pub sum : (least : ℕ → Pair) → IsLeastAdded (OutsideArc three_alike 11) three_alike 11 unlike 2
      (least 2) →
      pair_with three_alike 11 unlike least ≡ eleven_levels

-- a choice of each of three paths
abbrev pub three_choices : ℕ → ℕ → ℕ → List Literal
three_choices first second third = literal 0 first ∷ literal 1 second ∷ literal 2 third ∷ []

-- dead at each level up to 10, and alive at level 11
pub record DiesBelowLast (prefix : List Literal) : Type 0 where
  pub levels : (level : ℕ) → level ≤ 10 → Dead three_alike (tag (level + 1) 0 0) prefix
  pub last : Dead three_alike (tag 12 0 0) prefix → ⊥

-- However the three choose, two of them have one frequency.
abbrev pub EachThreeDie : Type 0
EachThreeDie =
    (first second third : ℕ) → first < 2 → second < 2 → third < 2 →
    DiesBelowLast (three_choices first second third)
