-- Choices that were removed from the arcs, in the order of removal.
use Rattle.std.specs.Prelude.{◌≡◌, ◌≢◌, ℕ, ◌+◌, ◌<◌, ◌≤◌, Bool, true, false, IsTrue, List, [], ◌∷◌, ◌++◌, length, slice_index_or, slice_set, All, AllPairs, Contains, replicate}
use Rattle.fapp_model.specs.declared.instance.Instance.{Instance}
use Rattle.fapp_model.specs.declared.literal.Literal.{Literal}
use Rattle.fapp_model.specs.declared.triple.Triple.{Triple}
use Rattle.fapp_model.specs.Assignments.{count_at}
use Rattle.fapp_model.specs.Instances.{IsInstance}
use Rattle.fapp_model.specs.search.Clashes.{shares_record}
use Rattle.fapp_model.specs.search.Partials.{IsLiteral}
use Rattle.fapp_model.specs.Tags.{code_of, triple_from}
use Rattle.cert_lines.specs.declared.answer.Line.{Line}
use Rattle.cert_lines.specs.declared.answer.Rule.TheVariants.{Count}
use Rattle.cert_lines.specs.acceptance.LineFaults.{IsGoodLine}
use Rattle.arc_levels.specs.Heights.{AreArcs, AreHeights, Falls, HasPartners, IsWideAt, height_at, size_of}

-- (k, 0, 0)
abbrev pub plain_tag : ℕ → Triple
plain_tag k = record { k = k; v = 0; s = 0 }

-- the Count line of a choice alone, without cites, at (k, 0, 0)
pub record IsLineAt (a : Literal) (k : ℕ) (line : Line) : Type 0 where
  pub lits : line.lits ≡ a ∷ []
  pub rule : line.rule ≡ Count []
  pub code : line.tag.code ≡ code_of (plain_tag k)
  pub triple : triple_from line.tag.code ≡ plain_tag k

-- a line for a removed choice, at its height
pub record IsLineHere (instance : Instance) (rows : List (List ℕ)) (line : Line) : Type 0 where
  pub lit : Literal
  pub inside : IsLiteral instance lit
  pub is : IsLineAt lit (height_at rows lit.path lit.choice) line
  pub removed : 0 < height_at rows lit.path lit.choice

-- a line for each removed choice, in an order in which each is good from those before it
pub record AreLines (instance : Instance) (rows : List (List ℕ)) (lines : List Line) : Type 0 where
  pub formed : All (IsLineHere instance rows) lines
  pub each : (a : Literal) → IsLiteral instance a → 0 < height_at rows a.path a.choice →
      (line : Line) × Contains lines line × IsLineAt a (height_at rows a.path a.choice) line
  pub once : AllPairs (λ x y. x.lits ≢ y.lits) lines
  pub good : (n : ℕ) → n < length lines → IsGoodLine instance lines n

-- what holds while the choices are removed that are outside the arcs of a level
pub record AreRemovals (instance : Instance) (level : ℕ) (rows : List (List ℕ))
    (lines : List Line) : Type 0 where
  pub heights : AreHeights instance rows
  pub clear : (path index : ℕ) → height_at rows path index ≤ level → height_at rows path index ≡ 0
  pub wide : IsWideAt instance level rows
  pub lined : AreLines instance rows lines

-- the rows with one height written
abbrev pub marked : List (List ℕ) → ℕ → ℕ → ℕ → List (List ℕ)
marked rows path index height =
    slice_set rows path (slice_set (slice_index_or rows path []) index height)

-- a choice is removed at a level
pub record IsRemoval (level : ℕ) (a : Literal) (old new : List (List ℕ))
    (before after : List Line) : Type 0 where
  pub line : Line
  pub is : IsLineAt a (level + 1) line
  pub lines : after ≡ before ++ line ∷ []
  pub rows : new ≡ marked old a.path a.choice (level + 1)

-- what a turn that removes choices does to the heights: nothing is removed, or fewer choices are
-- left
pub record IsTurn (instance : Instance) (level : ℕ) (old new : List (List ℕ))
    (changed : Bool) : Type 0 where
  pub falls : Falls level old new
  pub stays : changed ≡ false → new ≡ old
  pub loses : changed ≡ true → size_of instance level new < size_of instance level old

-- a turn that removes choices of one path alone, after which each that it keeps has a partner on
-- another one
pub record IsRevision (instance : Instance) (level path other : ℕ) (old new : List (List ℕ))
    (changed : Bool) : Type 0 where
  pub turn : IsTurn instance level old new changed
  pub others : (p index : ℕ) → p ≢ path → height_at new p index ≡ height_at old p index
  pub served : HasPartners instance level new path other

-- whether choices of a path may have been removed since those of its neighbours had partners on it
abbrev pub is_stale : List Bool → ℕ → Bool
is_stale stale path = slice_index_or stale path true

-- where none may have been, each choice of the neighbours has a partner on the path
pub record AreFresh (instance : Instance) (level : ℕ) (rows : List (List ℕ))
    (stale : List Bool) : Type 0 where
  pub whole : length stale ≡ length instance.paths
  pub served : (path other : ℕ) → IsTrue (shares_record instance path other) →
      is_stale stale other ≡ false →
      HasPartners instance level rows path other

-- a turn after which each choice has its partners, or that changed something
pub record IsSweep (instance : Instance) (level : ℕ) (old new : List (List ℕ))
    (changed : Bool) : Type 0 where
  pub turn : IsTurn instance level old new changed
  pub served : changed ≡ false → (path other : ℕ) → IsTrue (shares_record instance path other) →
      HasPartners instance level new path other

-- what a table of the arcs keeps
pub record IsArcTable (instance : Instance) (rows : List (List ℕ))
    (lines : List Line) : Type 0 where
  pub valid : IsInstance instance
  pub arcs : AreArcs instance rows
  pub lined : AreLines instance rows lines

-- a height of 0 for each choice of so many paths
pub record AreBlank (instance : Instance) (rows : List (List ℕ)) (count : ℕ) : Type 0 where
  pub paths : length rows ≡ count
  pub blank : (path : ℕ) → path < count →
      slice_index_or rows path [] ≡ replicate (count_at instance path) 0
