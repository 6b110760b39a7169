-- Lines of one literal, by the literal's path and by its choice.
use Rattle.std.specs.Prelude.{◌≡◌, ℕ, ◌<◌, Bool, false, ◌==◌, List, [], ◌∷◌, ◌++◌, length, filter, slice_index_or, All, if◌then◌else◌}
use Rattle.std.specs.List.{range_with_len}
use Rattle.fapp_model.specs.declared.literal.Literal.{Literal}
use Rattle.fapp_model.specs.search.Partials.{literal}
use Rattle.cert_lines.specs.declared.answer.Line.{Line}
use Rattle.cert_check.specs.Marked.{line_on, marked_row, ones_of}
use Rattle.fapp_model.specs.declared.instance.Instance.{Instance}
use Rattle.fapp_model.specs.Assignments.{count_at}

-- the literals are one alone, of this path
abbrev pub is_one_of : ℕ → List Literal → Bool
is_one_of path [] = false
is_one_of path (b ∷ []) = b.path == path
is_one_of path (b ∷ c ∷ more) = false

abbrev pub first_literal : List Literal → Literal
first_literal literals = slice_index_or literals 0 (literal 0 0)

-- the choice of a line's first literal
abbrev pub choice_on : List Line → ℕ → ℕ
choice_on lines k = (first_literal (line_on lines k).lits).choice

unfoldable pub ones_by_path : List Line → ℕ → List ℕ
ones_by_path lines path =
    filter (λ k. is_one_of path (line_on lines k).lits) (range_with_len 0 (length lines))

-- a line's position is added to the row of its path, where it has one literal
pub record IsLineAdded (old new : List (List ℕ)) (literals : List Literal)
    (place : ℕ) : Type 0 where
  pub whole : length new ≡ length old
  pub rows : (path : ℕ) → marked_row new path ≡ marked_row old path
      ++ (if is_one_of path literals then (place ∷ []) else [])

-- by path, the lines of one literal
pub record AreOnesByPath (lines : List Line) (rows : ℕ) (table : List (List ℕ)) : Type 0 where
  pub whole : length table ≡ rows
  pub each : (path : ℕ) → marked_row table path ≡ ones_by_path lines path

-- by choice, some of the positions
pub record AreByChoice (lines : List Line) (ones : List ℕ) (rows : ℕ)
    (table : List (List ℕ)) : Type 0 where
  pub whole : length table ≡ rows
  pub each : (index : ℕ) → marked_row table index ≡ filter (λ k. choice_on lines k == index) ones

-- positions of lines with a literal whose choice is below a count
pub record AreLow (lines : List Line) (count : ℕ) (ones : List ℕ) : Type 0 where
  pub within : All (λ k. k < length lines) ones
  pub some : All (λ k. 0 < length (line_on lines k).lits) ones
  pub low : All (λ k. choice_on lines k < count) ones

-- by choice, the lines of one literal of a path
pub record IsRowsOf (instance : Instance) (lines : List Line) (path : ℕ)
    (table : List (List ℕ)) : Type 0 where
  pub whole : length table ≡ count_at instance path
  pub each : (index : ℕ) → marked_row table index ≡ ones_of lines (literal path index)

-- by path and choice
pub record IsOnes (instance : Instance) (lines : List Line)
    (table : List (List (List ℕ))) : Type 0 where
  pub paths : length table ≡ length instance.paths
  pub rows : (path : ℕ) → path < length instance.paths →
      IsRowsOf instance lines path (marked_row table path)
