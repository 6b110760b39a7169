-- Lines that other lines delete.
use Rattle.std.specs.Prelude.{ℕ, ◌+◌, Bool, true, false, not, ◌&&◌, ◌==◌, List, [], ◌∷◌, if◌then◌else◌}
use Rattle.std.specs.List.{list_any}
use Rattle.cert_lines.specs.declared.answer.Line.{Line}
use Rattle.cert_lines.specs.declared.answer.Rule.{Rule}
use Rattle.cert_lines.specs.declared.answer.Rule.TheVariants.{Count, Branch, Delete}

abbrev pub is_delete : Rule → Bool
is_delete (Count cites) = false
is_delete (Branch path children) = false
is_delete (Delete cites) = true

-- the numbers of the lines that a rule deletes
abbrev pub deletes : Rule → List ℕ
deletes (Count cites) = []
deletes (Branch path children) = []
deletes (Delete cites) = cites

-- a line of this number is deleted by one of some lines
abbrev pub is_deleted : List Line → ℕ → Bool
is_deleted lines n = list_any (λ line. list_any (λ m. m == n) (deletes line.rule)) lines

-- no Delete line, and deleted by none
abbrev pub is_kept : List Line → ℕ → Line → Bool
is_kept lines n line = not (is_delete line.rule) && not (is_deleted lines n)

-- those of some lines, which have numbers from one on, that are kept
abbrev pub kept_from : List Line → ℕ → List Line → List Line
kept_from lines n [] = []
kept_from lines n (line ∷ more) =
    if is_kept lines n line then (line ∷ kept_from lines (n + 1) more)
    else kept_from lines (n + 1) more

-- the Count and Branch lines that no line deletes, in their order
unfoldable pub kept : List Line → List Line
kept lines = kept_from lines 1 lines
