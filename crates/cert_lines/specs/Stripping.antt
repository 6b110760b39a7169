-- Lines without the Delete lines.
use Rattle.std.specs.Prelude.{ℕ, ◌<◌, Bool, not, ◌==◌, List, [], map, filter, take, count_by, All, IsTrue, if◌then◌else◌}
use Rattle.cert_lines.specs.declared.answer.Line.{Line}
use Rattle.cert_lines.specs.declared.answer.Rule.{Rule}
use Rattle.cert_lines.specs.declared.answer.Rule.TheVariants.{Branch, Count, Delete}
use Rattle.cert_lines.specs.acceptance.Deleted.{is_delete}
use Rattle.cert_lines.specs.acceptance.Excluded.{line_at}
use Rattle.cert_lines.specs.Renumbering.{cited, renumbered}

abbrev pub stays : Line → Bool
stays line = not (is_delete line.rule)

-- the number that the line of a number has without the Delete lines: how many lines up to it are
-- none
abbrev pub stripped_number : List Line → ℕ → ℕ
stripped_number lines n = count_by stays (take n lines)

-- a rule that cites nothing
abbrev pub bare_rule : Rule → Rule
bare_rule (Count cites) = Count []
bare_rule (Branch path children) = Branch path []
bare_rule (Delete cites) = Delete []

abbrev pub bare : Line → Line
bare line = record { tag = line.tag; lits = line.lits; rule = bare_rule line.rule }

-- a line as it stands without the Delete lines: its cites by their new numbers, and none at the tag
-- (0, 0, 0)
abbrev pub stripped_line : List Line → Line → Line
stripped_line lines line =
    if line.tag.code == 0 then bare line else renumbered (stripped_number lines) line

abbrev pub stripped_from : List Line → List Line → List Line
stripped_from lines some = map (stripped_line lines) (filter stays some)

-- the Count and Branch lines, renumbered
unfoldable pub stripped : List Line → List Line
stripped lines = stripped_from lines lines

-- at a tag above (0, 0, 0) the line of a number cites earlier lines, and none of them is a Delete
-- line
abbrev pub IsStrippable : List Line → ℕ → Type 0
IsStrippable lines n = 0 < (line_at lines n).tag.code →
    All (λ k. (0 < k) × ((k < n) × IsTrue (stays (line_at lines k)))) (cited (line_at lines n).rule)
