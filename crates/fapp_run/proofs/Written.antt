-- An answer as it is written in a version.
use Rattle.std.proofs.Common.{◌≡◌, ℕ, ◌<◌, ◌≤◌, Bool, true, false, List, [], ◌∷◌, length, map, get_or, refl, ap, sym, subst, ◌∙◌, inr, arith, All, eqb, cond}
use Rattle.std.proofs.lemmas.List.Elements.{All-head, All-tail}
use Rattle.fapp_model.specs.declared.instance.Instance.{Instance}
use Rattle.fapp_model.specs.Instances.{IsNumber}
use Rattle.cert_lines.specs.declared.answer.Answer.{Answer}
use Rattle.cert_lines.specs.declared.answer.Child.{Child}
use Rattle.cert_lines.specs.declared.answer.Line.{Line}
use Rattle.cert_lines.specs.declared.answer.Rule.{Rule}
use Rattle.cert_lines.specs.declared.answer.Rule.TheVariants.{Branch, Count, Delete}
use Rattle.cert_lines.specs.WellFormed.{IsWellFormed}
use Rattle.cert_lines.specs.acceptance.Accepts.{Accepts}
use Rattle.cert_lines.proofs.Deleting.{IsPlain, entries-in, formed-plain, plain-lines}
use Rattle.accept_laws.specs.Compacting.{IsCompactable, compacted}
use Rattle.accept_laws.specs.Deletion.{compacted_answer}
use Rattle.cert_lines.specs.Renumbering.{cited}
use Rattle.accept_laws.proofs.Accepting.{accepted-parts, parts-accepted}
use Rattle.accept_laws.proofs.Compacting.{compacted-good}
use Rattle.accept_laws.proofs.CompactedForms.{compacted-formed}
use Rattle.accept_laws.proofs.RootLines.{compacted-root}
use Rattle.accept_laws.proofs.Versions.{compactable, compacted-count}
use Rattle.merge_laws.specs.MergedLines.{HasNoCite}
use Rattle.fapp_run.specs.Versions.{IsWrittenIn, delete_lines}

pub same-verdict : (instance : Instance) (version : ℕ) (answer written : Answer) → IsWrittenIn instance version answer written → written.verdict ≡ answer.verdict
same-verdict instance version answer written h = ap (λ (a : Answer). a.verdict) h.is ∙ by_version (eqb version 2)
  where
    by_version : (b : Bool) → (let a : Answer = cond b (compacted_answer answer) answer in a.verdict) ≡ answer.verdict
    by_version true = refl
    by_version false = refl

none-left : (lines : List Line) → All IsPlain lines → length (delete_lines lines) ≡ 0
none-left [] plain = refl
none-left (line ∷ more) plain = ap (λ b. length (cond b (line ∷ delete_lines more) (delete_lines more))) (All-head IsPlain line more plain) ∙ none-left more (All-tail IsPlain line more plain)

-- in another version than the second it stays
pub first-written : (instance : Instance) (version : ℕ) (answer : Answer) → eqb version 2 ≡ false → answer.version ≡ 1 → IsWellFormed instance answer → Accepts instance answer → IsWrittenIn instance version answer answer
first-written instance version answer other first formed accepted =
    let none = none-left answer.lines (formed-plain instance answer.lines (plain-lines instance answer first formed)) in
    record {
      is = ap (λ b. cond b (compacted_answer answer) answer) (sym other);
      formed = formed;
      accepted = accepted;
      others = omega (arith, none);
      few = omega (arith, none);
    }

module _ (instance : Instance) (answer : Answer) (first : answer.version ≡ 1) (formed : IsWellFormed instance answer) (accepted : Accepts instance answer) (bare : All (λ line. line.tag.code ≡ 0 → HasNoCite line.rule) answer.lines) where
  cites-nothing : (rule : Rule) → HasNoCite rule → cited rule ≡ []
  cites-nothing (Count cites) h = h
  cites-nothing (Branch path children) h = ap (λ (cs : List Child). map (λ (child : Child). child.cite) cs) h
  cites-nothing (Delete cites) h = absurd h

  pub may-compact : (n : ℕ) → 0 < n → n ≤ length answer.lines → IsCompactable answer.lines n
  may-compact = compactable instance answer.lines (accepted-parts instance answer accepted).lines
      (λ k d l zero. cites-nothing (get_or answer.lines k d).rule (bare k d l zero))

  -- in the second it has Delete lines
  pub second-written : (version : ℕ) (written : Answer) → eqb version 2 ≡ true → written ≡ compacted_answer answer → IsNumber (length written.lines) → IsWrittenIn instance version answer written
  second-written version written second is few =
      let lines = plain-lines instance answer first formed in
      let h = accepted-parts instance answer accepted in
      let count = compacted-count answer.lines (formed-plain instance answer.lines lines) in
      let small : IsNumber (length (compacted answer.lines)) = subst (λ (a : Answer). IsNumber (length a.lines)) is few in
      subst (IsWrittenIn instance version answer) (sym is) (record {
        is = ap (λ b. cond b (compacted_answer answer) answer) (sym second);
        formed = record {
          plan = formed.plan;
          choices = formed.choices;
          verdict = formed.verdict;
          version = inr refl;
          lines = entries-in instance (compacted answer.lines) (compacted-formed instance answer.lines lines small may-compact);
        };
        accepted = parts-accepted instance (compacted_answer answer)
            (record { plan = h.plan; lines = compacted-good instance answer.lines lines h.lines; root = compacted-root instance answer.verdict answer.lines lines h.root });
        others = count.1;
        few = count.0;
      })
