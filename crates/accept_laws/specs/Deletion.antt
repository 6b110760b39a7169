-- What becomes of an accepted answer without Delete lines, and with them.
use Rattle.std.specs.Prelude.{◌≡◌, ℕ, ◌<◌, ◌≤◌, length}
use Rattle.fapp_model.specs.declared.instance.Instance.{Instance}
use Rattle.fapp_model.specs.Instances.{IsNumber}
use Rattle.cert_lines.specs.declared.answer.Answer.{Answer}
use Rattle.cert_lines.specs.WellFormed.{IsWellFormed}
use Rattle.cert_lines.specs.acceptance.Accepts.{Accepts}
use Rattle.accept_laws.specs.Compacting.{IsCompactable, compacted}
use Rattle.cert_lines.specs.Stripping.{stripped}

-- an answer in version 1
abbrev pub stripped_answer : Answer → Answer
stripped_answer answer =
    record {
      plan = answer.plan;
      verdict = answer.verdict;
      version = 1;
      lines = stripped answer.lines;
    }

-- an answer in version 2
abbrev pub compacted_answer : Answer → Answer
compacted_answer answer =
    record {
      plan = answer.plan;
      verdict = answer.verdict;
      version = 2;
      lines = compacted answer.lines;
    }

-- An accepted answer is accepted without its Delete lines, and is well formed so.
abbrev pub StripKeepsAcceptance : Type 0
StripKeepsAcceptance =
    (instance : Instance) (answer : Answer) → IsWellFormed instance answer →
    Accepts instance answer →
    Accepts instance (stripped_answer answer) × IsWellFormed instance (stripped_answer answer)

-- One of version 1 is accepted with Delete lines for what is cited no more. Where its cites at (0,
-- 0, 0) may be renumbered too, as there are none, and there are not too many lines, it is well
-- formed so.
abbrev pub CompactKeepsAcceptance : Type 0
CompactKeepsAcceptance =
    (instance : Instance) (answer : Answer) → answer.version ≡ 1 → IsWellFormed instance answer →
    Accepts instance answer → Accepts instance (compacted_answer answer)
    × (IsNumber (length (compacted answer.lines)) →
    ((n : ℕ) → 0 < n → n ≤ length answer.lines → IsCompactable answer.lines n) →
    IsWellFormed instance (compacted_answer answer))
