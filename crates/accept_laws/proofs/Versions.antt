-- What an accepted answer of version 1 is in version 2.
use Rattle.std.proofs.Common.{◌≡◌, ℕ, zero, suc, ◌+◌, ◌-◌, ◌<◌, ◌≤◌, Bool, true, false, List, [], ◌∷◌, length, filter, map, take, get_or, refl, ap, sym, subst, ◌∙◌, arith, None, All, eqb, cond}
use Rattle.std.proofs.lemmas.Bool.{eqb-true}
use Rattle.std.proofs.lemmas.List.{length-append, length-take}
use Rattle.std.proofs.lemmas.List.Elements.{All-contains, All-nil, filter-append}
use Rattle.fapp_model.specs.declared.instance.Instance.{Instance}
use Rattle.fapp_model.specs.declared.literal.Literal.{Literal}
use Rattle.fapp_model.specs.declared.tag.Tag.{Tag}
use Rattle.fapp_model.specs.search.Partials.{literal}
use Rattle.fapp_model.proofs.Members.{All-from_members, from-map}
use Rattle.cert_lines.specs.declared.answer.Child.{Child}
use Rattle.cert_lines.specs.declared.answer.Line.{Line}
use Rattle.cert_lines.specs.declared.answer.Rule.{Rule}
use Rattle.cert_lines.specs.declared.answer.Rule.TheVariants.{Branch, Count, Delete}
use Rattle.cert_lines.specs.acceptance.Contained.{has_all, has_all_but_one}
use Rattle.cert_lines.specs.acceptance.Deleted.{deletes, is_delete}
use Rattle.cert_lines.specs.acceptance.Excluded.{line_at, no_line}
use Rattle.cert_lines.specs.acceptance.LineFaults.{child_fault, cite_fault, delete_fault, first_of, line_fault, rejected_at, rule_fault}
use Rattle.cert_lines.proofs.Deleting.{IsPlain}
use Rattle.accept_laws.specs.Lines.{AreGood}
use Rattle.cert_lines.specs.Renumbering.{cited}
use Rattle.accept_laws.specs.Compacting.{IsCompactable, compacted, compacted_at, compacted_number, compacted_to, delete_behind, delete_line, ended, ending, is_empty}
use Rattle.accept_laws.proofs.Compacting.{length-front, new_line, plain-at, plain-renumbered}
use Rattle.accept_laws.proofs.GoodLines.{good-cite}
use Rattle.accept_laws.proofs.Options.{first_of-none, mapped-none, neither}

-- ---- how many Delete lines it has

module _ (lines : List Line) (plain : All IsPlain lines) where
  behind-count : (n : ℕ) → length (filter (λ (line : Line). is_delete line.rule) (delete_behind lines n)) ≡ cond (is_empty (ended lines n)) 0 1
  behind-count n = by_empty (is_empty (ended lines n))
    where
      by_empty : (b : Bool) → length (filter (λ (line : Line). is_delete line.rule) (cond b [] (delete_line (map (compacted_number lines) (ended lines n)) ∷ []))) ≡ cond b 0 1
      by_empty true = refl
      by_empty false = refl

  front-count : (n : ℕ) → n ≤ length lines → length (filter (λ (line : Line). is_delete line.rule) (compacted_to lines n)) ≡ ending lines n
  front-count zero small = refl
  front-count (suc n) small =
      let deleting = λ (line : Line). is_delete line.rule in
      let new = plain-renumbered lines (compacted_number lines) (line_at lines (suc n)).rule (plain-at lines plain n small) in
      let here : filter deleting (compacted_at lines (suc n)) ≡ filter deleting (delete_behind lines (suc n)) =
      ap (λ b. cond b (new_line lines (suc n) ∷ filter deleting (delete_behind lines (suc n))) (filter deleting (delete_behind lines (suc n)))) new in
      let both = ap (λ (ls : List Line). length ls) (filter-append deleting (compacted_to lines n) (compacted_at lines (suc n))) ∙ length-append (filter deleting (compacted_to lines n)) (filter deleting (compacted_at lines (suc n))) in
      let rest = front-count n (omega arith) in
      let last = ap (λ (ls : List Line). length ls) here ∙ behind-count (suc n) in omega (arith, both, rest, last)

  ending-few : (n : ℕ) → ending lines n ≤ n
  ending-few zero = omega arith
  ending-few (suc n) = by_empty (is_empty (ended lines (suc n))) (ending-few n)
    where
      by_empty : (b : Bool) → ending lines n ≤ n → ending lines n + cond b 0 1 ≤ suc n
      by_empty true h = omega arith
      by_empty false h = omega arith

  -- at most as many as the others
  pub compacted-count : (length (filter (λ (line : Line). is_delete line.rule) (compacted lines)) ≤ length lines) × (length (compacted lines) ≡ length lines + length (filter (λ (line : Line). is_delete line.rule) (compacted lines)))
  unfolding compacted
  compacted-count =
      let count = front-count (length lines) (omega arith) in
      let few = ending-few (length lines) in
      let all = length-front lines (length lines) in
      (omega (arith, count, few), omega (arith, count, all))

-- ---- what its lines cite

module _ (instance : Instance) where
  rule-earlier : (earlier : List Line) (t : Tag) (lits : List Literal) (rule : Rule) → rule_fault instance earlier t lits rule ≡ None → All (λ k. (0 < k) × (k ≤ length earlier)) (cited rule)
  rule-earlier earlier t lits (Count cites) h = λ k d l.
      let good = first_of-none (cite_fault earlier t (has_all_but_one lits)) cites (neither (first_of (cite_fault earlier t (has_all_but_one lits)) cites) _ h).0 in
      let g = good-cite earlier t (has_all_but_one lits) (get_or cites k d) (good k d l) in
      (g.low, g.high)
  rule-earlier earlier t lits (Branch path children) h = All-from_members (λ k. (0 < k) × (k ≤ length earlier)) (map (λ (child : Child). child.cite) children) (λ k m.
      let f = from-map (λ (child : Child). child.cite) children k m in
      let good = first_of-none (child_fault earlier t lits path) children (neither (first_of (child_fault earlier t lits path) children) _ (neither _ _ h).1).0 in
      let g = good-cite earlier t (has_all (literal path f.0.choice ∷ lits)) f.0.cite (All-contains (λ child. child_fault earlier t lits path child ≡ None) children f.0 good f.1) in
      subst (λ j. (0 < j) × (j ≤ length earlier)) f.2 (g.low, g.high))
  rule-earlier earlier t lits (Delete cites) h = All-nil (λ k. (0 < k) × (k ≤ length earlier))

  line-earlier : (earlier : List Line) (line : Line) → line_fault instance earlier line ≡ None → (line.tag.code ≡ 0 → cited line.rule ≡ []) → All (λ k. (0 < k) × (k ≤ length earlier)) (cited line.rule)
  unfolding line_fault
  line-earlier earlier line h bare =
      by_zero (eqb line.tag.code 0) refl (neither (first_of (delete_fault earlier) (deletes line.rule)) (cond (eqb line.tag.code 0) None (rule_fault instance earlier line.tag line.lits line.rule)) h).1
    where
      by_zero : (b : Bool) → eqb line.tag.code 0 ≡ b → cond b None (rule_fault instance earlier line.tag line.lits line.rule) ≡ None → All (λ k. (0 < k) × (k ≤ length earlier)) (cited line.rule)
      by_zero true z g = subst (All (λ k. (0 < k) × (k ≤ length earlier))) (sym (bare (eqb-true line.tag.code 0 z))) (All-nil (λ k. (0 < k) × (k ≤ length earlier)))
      by_zero false z g = rule-earlier earlier line.tag line.lits line.rule g

  -- good lines that cite nothing at (0, 0, 0) may be given Delete lines
  pub compactable : (lines : List Line) → AreGood instance lines → All (λ line. line.tag.code ≡ 0 → cited line.rule ≡ []) lines → (n : ℕ) → 0 < n → n ≤ length lines → IsCompactable lines n
  compactable lines good bare n low high =
      let number : n - 1 + 1 ≡ n = omega arith in
      let clean : line_fault instance (take (n - 1) lines) (line_at lines n) ≡ None =
      subst (λ m. line_fault instance (take (n - 1) lines) (line_at lines m) ≡ None) number (mapped-none (rejected_at (n - 1 + 1)) (line_fault instance (take (n - 1) lines) (line_at lines (n - 1 + 1))) (good (n - 1) (omega arith))) in
      let own = bare (n - 1) no_line (omega arith) in
      let earlier = line-earlier (take (n - 1) lines) (line_at lines n) clean own in
      record {
        earlier = λ k d l. let e = earlier k d l in let few = length-take (n - 1) lines in (e.0, omega (arith, e.1, few));
        bare = own;
      }
