-- How the compacted lines grow with each line.
use Rattle.std.proofs.Common.{◌≡◌, ℕ, suc, ◌+◌, ◌<◌, ◌≤◌, List, [], ◌∷◌, ◌++◌, length, map, get_or, refl, ap, sym, subst, ◌∙◌, arith, false, append_assoc, cond, eqb, zero-add}
use Rattle.std.specs.List.{range_with_len}
use Rattle.std.proofs.lemmas.List.Elements.{All-contains}
use Rattle.std.proofs.lemmas.List.FromFn.{get_or-map-range_with_len, map-range_with_len_more}
use Rattle.fapp_model.proofs.Members.{from-filter, from-range}
use Rattle.fapp_model.specs.declared.literal.Literal.{Literal}
use Rattle.fapp_model.specs.declared.tag.Tag.{Tag}
use Rattle.cert_lines.specs.declared.answer.Line.{Line}
use Rattle.cert_lines.specs.declared.answer.Rule.{Rule}
use Rattle.cert_lines.specs.declared.answer.Rule.TheVariants.{Delete}
use Rattle.cert_lines.specs.Renumbering.{cited, number_in, renumbered}
use Rattle.cert_lines.specs.acceptance.Deleted.{is_delete}
use Rattle.cert_lines.proofs.SameLines.{same-line, same-map}
use Rattle.cert_lines.proofs.TagLemmas.{same_tag}
use Rattle.accept_laws.specs.Compacting.{IsCompactable, compacted_at, compacted_number, compacted_to, delete_behind, delete_line, ended, is_empty, is_last_cite}
use Rattle.accept_laws.proofs.Compacting.{number-last}
use Rattle.cert_merge.specs.Compacting.{delete_by}
use Rattle.cert_merge.proofs.LastCites.{cites-before, line-here}

-- a line of these parts is the Delete line
line_of : Tag → List Literal → Rule → Line
line_of tag lits rule = record { tag = tag; lits = lits; rule = rule }

pub delete-made : (line : Line) (numbers : List ℕ) → line.tag.code ≡ 0 → line.lits ≡ [] → line.rule ≡ Delete numbers → line ≡ delete_line numbers
unfolding line_of
delete-made line numbers code lits rule =
    ap (λ t. line_of t line.lits line.rule) (same_tag line.tag (delete_line numbers).tag code)
    ∙ (ap (λ ls. line_of (delete_line numbers).tag ls line.rule) lits ∙ ap (λ r. line_of (delete_line numbers).tag [] r) rule)

-- a line and the Delete line of a row
pub both-added : (out one two : List Line) (line last : Line) (numbers row : List ℕ) → one ≡ out ++ line ∷ [] → two ≡ one ++ last ∷ [] → last ≡ delete_line (map (number_in numbers) row) → eqb (length row) 0 ≡ false →
    two ≡ out ++ (line ∷ delete_by numbers row)
both-added out one two line last numbers [] first then is some = absurd (cc)
both-added out one two line last numbers (k ∷ ks) first then is some =
    then ∙ (ap (λ ls. ls ++ last ∷ []) first ∙ (append_assoc out (line ∷ []) (last ∷ []) ∙ ap (λ (l : Line). out ++ line ∷ l ∷ []) is))

module _ (lines : List Line) where
  abbrev numbers_to : ℕ → List ℕ
  numbers_to i = map (compacted_number lines) (range_with_len 0 i)

  -- the first lines are compacted, and a table has their numbers
  pub record AreWritten (i : ℕ) (out : List Line) (numbers : List ℕ) : Type 0 where
    pub lines_are : out ≡ compacted_to lines i
    pub numbers_are : numbers ≡ numbers_to (i + 1)

  number-at : (numbers : List ℕ) (i k : ℕ) → numbers ≡ numbers_to i → k < i → number_in numbers k ≡ compacted_number lines k
  number-at numbers i k is small = ap (λ ns. get_or ns k 0) is ∙ get_or-map-range_with_len (compacted_number lines) 0 i k k 0 small (zero-add k)

  pub written-none : AreWritten 0 [] (0 ∷ [])
  written-none = record { lines_are = refl; numbers_are = refl }

  pub written-more : (i : ℕ) (line : Line) (out next : List Line) (numbers more row : List ℕ) → i < length lines → line ≡ get_or lines i line → is_delete line.rule ≡ false →
      ((n : ℕ) → 0 < n → n ≤ length lines → IsCompactable lines n) → AreWritten i out numbers → row ≡ ended lines (i + 1) → next ≡ out ++ (renumbered (number_in numbers) line ∷ delete_by more row) →
      more ≡ numbers ++ (length out + 1) ∷ [] → AreWritten (i + 1) next more
  written-more i line out next numbers more row small is plain ready was row_is made_lines made_numbers = record {
    lines_are = made_lines ∙ (ap (λ ls. out ++ (renumbered (number_in numbers) line ∷ ls)) deleted
        ∙ (ap (λ (l : Line). out ++ (l ∷ delete_behind lines (i + 1))) copied ∙ (ap (λ ls. ls ++ (renumbered (compacted_number lines) line ∷ delete_behind lines (i + 1))) was.lines_are ∙ whole)));
    numbers_are = counted;
  }
    where
      one : suc i ≡ i + 1
      one = omega arith

      number : length out + 1 ≡ compacted_number lines (i + 1)
      number = ap (λ (ls : List Line). length ls + 1) was.lines_are ∙ (sym (number-last lines i) ∙ ap (compacted_number lines) one)

      counted : more ≡ numbers_to (i + 1 + 1)
      counted = made_numbers ∙ (ap (λ ns. ns ++ (length out + 1) ∷ []) was.numbers_are ∙ (ap (λ n. numbers_to (i + 1) ++ n ∷ []) number
          ∙ sym (map-range_with_len_more (compacted_number lines) 0 (i + 1) (i + 1) (zero-add (i + 1)))))

      copied : renumbered (number_in numbers) line ≡ renumbered (compacted_number lines) line
      copied = same-line (number_in numbers) (compacted_number lines) line plain (λ k m.
          number-at numbers (i + 1) k was.numbers_are (All-contains (λ k. (0 < k) × (k < i + 1)) (cited line.rule) k (cites-before lines i line small is ready) m).1)

      deleted : delete_by more row ≡ delete_behind lines (i + 1)
      deleted = ap (delete_by more) row_is ∙ ap (λ ns. cond (is_empty (ended lines (i + 1))) [] (delete_line ns ∷ []))
          (same-map (number_in more) (compacted_number lines) (ended lines (i + 1)) (λ k m.
          let before = from-range (i + 1) k (from-filter (is_last_cite lines (i + 1)) (range_with_len 0 (i + 1)) k m).0 in
          number-at more (i + 1 + 1) k counted (omega arith)))

      whole : compacted_to lines i ++ (renumbered (compacted_number lines) line ∷ delete_behind lines (i + 1)) ≡ compacted_to lines (i + 1)
      whole = ap (λ (l : Line). compacted_to lines i ++ (renumbered (compacted_number lines) l ∷ delete_behind lines (i + 1))) (sym (line-here lines i line small is))
          ∙ subst (λ m. compacted_to lines i ++ compacted_at lines m ≡ compacted_to lines m) one refl
