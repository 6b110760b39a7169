-- Lines whose cites have other numbers.
use Rattle.std.specs.Prelude.{ℕ, List, [], map, slice_index_or}
use Rattle.cert_lines.specs.declared.answer.Child.{Child}
use Rattle.cert_lines.specs.declared.answer.Line.{Line}
use Rattle.cert_lines.specs.declared.answer.Rule.{Rule}
use Rattle.cert_lines.specs.declared.answer.Rule.TheVariants.{Branch, Count, Delete}

-- a line, with other numbers for what it cites
abbrev pub renumbered_child : (ℕ → ℕ) → Child → Child
renumbered_child number child = record { choice = child.choice; cite = number child.cite }

abbrev pub renumbered_rule : (ℕ → ℕ) → Rule → Rule
renumbered_rule number (Count cites) = Count (map number cites)
renumbered_rule number (Branch path children) = Branch path (map (renumbered_child number) children)
renumbered_rule number (Delete cites) = Delete (map number cites)

abbrev pub renumbered : (ℕ → ℕ) → Line → Line
renumbered number line =
    record { tag = line.tag; lits = line.lits; rule = renumbered_rule number line.rule }

-- what a Count or Branch line cites
abbrev pub cited : Rule → List ℕ
cited (Count cites) = cites
cited (Branch path children) = map (λ child. child.cite) children
cited (Delete cites) = []

-- the number at a place of a table, and 0 past its end
abbrev pub number_in : List ℕ → ℕ → ℕ
number_in numbers n = slice_index_or numbers n 0
