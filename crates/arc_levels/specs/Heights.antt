-- Heights of choices: at which level each was removed from the arcs.
use Rattle.std.specs.Prelude.{◌≡◌, ◌⊎◌, ◌↔◌, ℕ, ◌+◌, ◌<◌, ◌≤◌, nat_le, Bool, false, not, ◌&&◌, IsTrue, List, [], length, slice_index_or, sum_by, count_by}
use Rattle.std.specs.List.{range_with_len}
use Rattle.fapp_model.specs.declared.instance.Instance.{Instance}
use Rattle.fapp_model.specs.declared.level.TheConstants.{MAX_LEVELS}
use Rattle.fapp_model.specs.declared.literal.Literal.{Literal}
use Rattle.fapp_model.specs.search.Arcs.{HasPartner, IsSupported}
use Rattle.fapp_model.specs.search.Clashes.{clashes}
use Rattle.fapp_model.specs.search.Partials.{literal, IsLiteral}
use Rattle.fapp_model.specs.Assignments.{count_at}
use Rattle.fapp_model.specs.Levels.{levels_of}
use Rattle.dead_laws.specs.ArcLaws.{IsArcs}

-- what stands past the end of the heights: above the height of each level
abbrev pub no_height : ℕ
no_height = MAX_LEVELS + 2

abbrev pub height_of : List ℕ → ℕ → ℕ
height_of heights index = slice_index_or heights index no_height

abbrev pub height_at : List (List ℕ) → ℕ → ℕ → ℕ
height_at rows path index = height_of (slice_index_or rows path []) index

-- the choices that are within the arcs of a level: those that were removed at a lower level at most
abbrev pub arc_of : List (List ℕ) → ℕ → Literal → Bool
arc_of rows level a = nat_le (height_at rows a.path a.choice) level

-- one height for each choice of each path
pub record AreHeights (instance : Instance) (rows : List (List ℕ)) : Type 0 where
  pub paths : length rows ≡ length instance.paths
  pub counts : (path : ℕ) → path < length instance.paths →
      length (slice_index_or rows path []) ≡ count_at instance path

-- no choice is removed yet
abbrev pub AreClear : Instance → List (List ℕ) → Type 0
AreClear instance rows = (a : Literal) → IsLiteral instance a → height_at rows a.path a.choice ≡ 0

-- a choice of another path is within the arcs, with no hard-bad record between it and the literal
abbrev pub is_partner : Instance → ℕ → List (List ℕ) → Literal → Literal → Bool
is_partner instance level rows a b = arc_of rows level b && not (clashes instance level a b)

abbrev pub IsPartnerAt : Instance → ℕ → List (List ℕ) → Literal → ℕ → ℕ → Type 0
IsPartnerAt instance level rows a other index =
    IsTrue (is_partner instance level rows a (literal other index))

-- no choice of another path is one, from an index on
abbrev pub IsLonelyFrom : Instance → ℕ → List (List ℕ) → Literal → ℕ → ℕ → Type 0
IsLonelyFrom instance level rows a other start =
    (index : ℕ) → start ≤ index → index < count_at instance other →
    is_partner instance level rows a (literal other index) ≡ false

-- a choice is within the arcs, and no choice of another path is a partner of it
pub record IsLonely (instance : Instance) (level : ℕ) (rows : List (List ℕ)) (a : Literal)
    (other : ℕ) : Type 0 where
  pub within : IsTrue (arc_of rows level a)
  pub alone : IsLonelyFrom instance level rows a other 0

-- the choices of each supported family are within the arcs
abbrev pub IsWideAt : Instance → ℕ → List (List ℕ) → Type 0
IsWideAt instance level rows = (family : Literal → Bool) → IsSupported instance level family →
    (a : Literal) → IsTrue (family a) → IsTrue (arc_of rows level a)

-- each height stays, or a choice that was within the level's arcs is removed at the level
abbrev pub Falls : ℕ → List (List ℕ) → List (List ℕ) → Type 0
Falls level old rows = (path index : ℕ) → (height_at rows path index ≡ height_at old path index)
    ⊎ ((height_at old path index ≤ level) × (height_at rows path index ≡ level + 1))

-- each choice of a path that is within the arcs has a partner on the other path
abbrev pub HasPartners : Instance → ℕ → List (List ℕ) → ℕ → ℕ → Type 0
HasPartners instance level rows path other =
    (index : ℕ) → IsTrue (arc_of rows level (literal path index)) →
    HasPartner instance level (arc_of rows level) (literal path index) other

-- how many choices are within a level's arcs
abbrev pub size_of : Instance → ℕ → List (List ℕ) → ℕ
size_of instance level rows = sum_by
    (λ path. count_by (λ index. arc_of rows level (literal path index))
    (range_with_len 0 (count_at instance path)))
    (range_with_len 0 (length instance.paths))

-- the arcs of each level
pub record AreArcs (instance : Instance) (rows : List (List ℕ)) : Type 0 where
  pub heights : AreHeights instance rows
  pub low : (a : Literal) → IsLiteral instance a →
      height_at rows a.path a.choice ≤ levels_of instance + 1
  pub arcs : (level : ℕ) → level ≤ levels_of instance → IsArcs instance level (arc_of rows level)

-- the least height of a path's first choices, or one more than the number of levels where that is
-- less: below it each of them is outside the arcs
pub record IsLeastHeight (instance : Instance) (rows : List (List ℕ))
    (path count least : ℕ) : Type 0 where
  pub few : least ≤ levels_of instance + 1
  pub below : (level : ℕ) → level ≤ levels_of instance →
      ((index : ℕ) → index < count → level < height_at rows path index) ↔ (level < least)

-- a path with each choice outside the arcs
pub record IsOutsidePath (instance : Instance) (rows : List (List ℕ))
    (count level : ℕ) : Type 0 where
  pub path : ℕ
  pub inside : path < count
  pub outside : (index : ℕ) → index < count_at instance path → level < height_at rows path index

-- the greatest such height of the first paths: below it one of them has each choice outside the
-- arcs
pub record IsGreatestLeast (instance : Instance) (rows : List (List ℕ))
    (count greatest : ℕ) : Type 0 where
  pub few : greatest ≤ levels_of instance + 1
  pub below : (level : ℕ) → level ≤ levels_of instance →
      IsOutsidePath instance rows count level ↔ (level < greatest)
