use Rattle.std.proofs.Common.{inl, refl}
use Rattle.cert_lines.proofs.Deleting.{entries-of, lines-in}
use Rattle.accept_laws.specs.Deletion.{stripped_answer}
use Rattle.cert_lines.specs.Stripping.{stripped}
use Rattle.accept_laws.proofs.Accepting.{accepted-parts, parts-accepted}
use Rattle.accept_laws.proofs.RootLines.{stripped-root}
use Rattle.accept_laws.proofs.StrippedForms.{stripped-formed}
use Rattle.accept_laws.proofs.Stripping.{stripped-good}
use Rattle.accept_laws.proofs.laws.strip_keeps_acceptance.Goals as goal

pub returns : goal.returns
returns c = λ instance answer formed accepted.
    let entries = entries-of instance answer formed in
    let h = accepted-parts instance answer accepted in (
      parts-accepted instance (stripped_answer answer)
          (record { plan = h.plan; lines = stripped-good instance answer.lines entries h.lines; root = stripped-root instance answer.verdict answer.lines h.root }),
      record {
        plan = formed.plan;
        choices = formed.choices;
        verdict = formed.verdict;
        version = inl refl;
        lines = lines-in 1 instance (stripped answer.lines) (stripped-formed instance answer.lines entries h.lines);
      },
    )
