-- An answer as it is written in a version.
use Rattle.std.specs.Prelude.{◌≡◌, ℕ, ◌+◌, ◌≤◌, ◌==◌, List, length, filter, if◌then◌else◌}
use Rattle.fapp_model.specs.declared.instance.Instance.{Instance}
use Rattle.cert_lines.specs.declared.answer.Answer.{Answer}
use Rattle.cert_lines.specs.declared.answer.Line.{Line}
use Rattle.cert_lines.specs.WellFormed.{IsWellFormed}
use Rattle.cert_lines.specs.acceptance.Accepts.{Accepts}
use Rattle.cert_lines.specs.acceptance.Deleted.{is_delete}
use Rattle.accept_laws.specs.Deletion.{compacted_answer}

-- version 2 has Delete lines for what is cited no more
abbrev pub in_version : ℕ → Answer → Answer
in_version version answer = if version == 2 then compacted_answer answer else answer

abbrev pub delete_lines : List Line → List Line
delete_lines lines = filter (λ line. is_delete line.rule) lines

-- An answer in a version. It is well formed and accepted there. It has as many other lines as the
-- answer in version 1, and at most as many Delete lines.
pub record IsWrittenIn (instance : Instance) (version : ℕ) (answer written : Answer) : Type 0 where
  pub is : written ≡ in_version version answer
  pub formed : IsWellFormed instance written
  pub accepted : Accepts instance written
  pub others : length written.lines ≡ length answer.lines + length (delete_lines written.lines)
  pub few : length (delete_lines written.lines) ≤ length answer.lines
