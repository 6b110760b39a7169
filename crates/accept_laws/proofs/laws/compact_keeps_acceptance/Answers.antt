use Rattle.std.proofs.Common.{inr, refl}
use Rattle.cert_lines.proofs.Deleting.{entries-in, plain-lines}
use Rattle.accept_laws.specs.Compacting.{compacted}
use Rattle.accept_laws.specs.Deletion.{compacted_answer}
use Rattle.accept_laws.proofs.Accepting.{accepted-parts, parts-accepted}
use Rattle.accept_laws.proofs.RootLines.{compacted-root}
use Rattle.accept_laws.proofs.CompactedForms.{compacted-formed}
use Rattle.accept_laws.proofs.Compacting.{compacted-good}
use Rattle.accept_laws.proofs.laws.compact_keeps_acceptance.Goals as goal

pub returns : goal.returns
returns c = λ instance answer one formed accepted.
    let lines = plain-lines instance answer one formed in
    let h = accepted-parts instance answer accepted in (
      parts-accepted instance (compacted_answer answer)
          (record { plan = h.plan; lines = compacted-good instance answer.lines lines h.lines; root = compacted-root instance answer.verdict answer.lines lines h.root }),
      λ few ready. record {
        plan = formed.plan;
        choices = formed.choices;
        verdict = formed.verdict;
        version = inr refl;
        lines = entries-in instance (compacted answer.lines) (compacted-formed instance answer.lines lines few ready);
      },
    )
