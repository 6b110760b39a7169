-- A log's line as the certificate has it: children whose lines were left out are no longer listed.
use Rattle.std.specs.Prelude.{ℕ, ◌==◌, List, [], ◌∷◌, flat_map, if◌then◌else◌}
use Rattle.cert_lines.specs.declared.answer.Child.{Child}
use Rattle.cert_lines.specs.declared.answer.Line.{Line}
use Rattle.cert_lines.specs.declared.answer.Rule.TheVariants.{Branch}
use Rattle.search_log.specs.declared.line.ChoiceRef.{ChoiceRef}
use Rattle.search_log.specs.declared.line.LogLine.{LogLine}
use Rattle.search_log.specs.declared.line.Ref.{Ref}

-- no child where the number is 0
abbrev pub child_for : ℕ → ℕ → List Child
child_for choice number =
    if number == 0 then [] else (record { choice = choice; cite = number } ∷ [])

abbrev pub written_child : (Ref → ℕ) → ChoiceRef → List Child
written_child number ref = child_for ref.choice (number ref.line)

-- a Branch line of a log, by the numbers of what it cites
abbrev pub written : (Ref → ℕ) → ℕ → LogLine → Line
written number path line =
    record {
      tag = line.tag;
      lits = line.lits;
      rule = Branch path (flat_map (written_child number) line.refs);
    }
