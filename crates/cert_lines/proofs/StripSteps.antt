-- How the stripped lines and their numbers grow with each line.
use Rattle.std.proofs.Common.{◌≡◌, ℕ, ◌+◌, ◌-◌, ◌<◌, ◌≤◌, Bool, true, false, not, List, [], ◌∷◌, ◌++◌, length, map, filter, take, get_or, refl, ap, sym, subst, ◌∙◌, zero-add, arith, All, IsTrue, eqb, cond}
use Rattle.std.specs.List.{range_with_len}
use Rattle.std.proofs.lemmas.Bool.{eqb-false, not_from_false}
use Rattle.std.proofs.lemmas.List.{get_or_default, map-append, append-nil}
use Rattle.std.proofs.lemmas.List.Elements.{All-contains, All-weaker, filter_more}
use Rattle.std.proofs.lemmas.List.FromFn.{get_or-map-range_with_len, map-range_with_len_more}
use Rattle.std.proofs.lemmas.List.Sums.{count_by_more_no, count_by_more_yes}
use Rattle.cert_lines.specs.declared.answer.Line.{Line}
use Rattle.cert_lines.specs.Renumbering.{cited, number_in, renumbered}
use Rattle.cert_lines.specs.Stripping.{IsStrippable, bare, stays, stripped_from, stripped_line, stripped_number}
use Rattle.cert_lines.specs.acceptance.Deleted.{is_delete}
use Rattle.cert_lines.specs.acceptance.Excluded.{line_at, no_line}
use Rattle.cert_lines.proofs.SameLines.{same-line}

from-true : (b : Bool) → b ≡ true → not b ≡ false
from-true true e = refl
from-true false e = absurd (cc)

module _ (lines : List Line) where
  abbrev numbers_to : ℕ → List ℕ
  numbers_to i = map (stripped_number lines) (range_with_len 0 i)

  module _ (i : ℕ) (line : Line) (small : i < length lines) (is : line ≡ get_or lines i line) where
    pub count-stays : (count next : ℕ) → is_delete line.rule ≡ false → count ≡ stripped_number lines i → next ≡ count + 1 → next ≡ stripped_number lines (i + 1)
    count-stays count next plain was step =
        step ∙ (ap (λ n. n + 1) was ∙ sym (count_by_more_yes stays lines i line small (subst (λ (l : Line). stays l ≡ true) is (not_from_false (is_delete line.rule) plain))))

    pub count-deletes : (count next : ℕ) → is_delete line.rule ≡ true → count ≡ stripped_number lines i → next ≡ count → next ≡ stripped_number lines (i + 1)
    count-deletes count next delete was step =
        step ∙ (was ∙ sym (count_by_more_no stays lines i line small (subst (λ (l : Line). stays l ≡ false) is (from-true (is_delete line.rule) delete))))

    grown : stripped_from lines (take (i + 1) lines) ≡ stripped_from lines (take i lines) ++ map (stripped_line lines) (cond (stays line) (line ∷ []) [])
    grown =
        ap (map (stripped_line lines)) (filter_more stays lines i line small ∙ ap (λ (l : Line). filter stays (take i lines) ++ cond (stays l) (l ∷ []) []) (sym is))
        ∙ map-append (stripped_line lines) (filter stays (take i lines)) (cond (stays line) (line ∷ []) [])

    pub strip-stays : (before after : List Line) (copy : Line) → is_delete line.rule ≡ false → before ≡ stripped_from lines (take i lines) → copy ≡ stripped_line lines line → after ≡ before ++ copy ∷ [] → after ≡ stripped_from lines (take (i + 1) lines)
    strip-stays before after copy plain was same step =
        step ∙ (ap (λ ls. ls ++ copy ∷ []) was ∙ (ap (λ (l : Line). stripped_from lines (take i lines) ++ l ∷ []) same
        ∙ sym (grown ∙ ap (λ b. stripped_from lines (take i lines) ++ map (stripped_line lines) (cond b (line ∷ []) [])) (not_from_false (is_delete line.rule) plain))))

    pub strip-deletes : (before : List Line) → is_delete line.rule ≡ true → before ≡ stripped_from lines (take i lines) → before ≡ stripped_from lines (take (i + 1) lines)
    strip-deletes before delete was =
        was ∙ sym (grown ∙ (ap (λ b. stripped_from lines (take i lines) ++ map (stripped_line lines) (cond b (line ∷ []) [])) (from-true (is_delete line.rule) delete)
        ∙ append-nil (stripped_from lines (take i lines))))

    -- the table has the numbers that the line cites
    pub stripped-copy : (numbers : List ℕ) (copy : Line) → ((n : ℕ) → 0 < n → n ≤ length lines → IsStrippable lines n) → numbers ≡ numbers_to (length lines + 1) → is_delete line.rule ≡ false →
        copy ≡ cond (eqb line.tag.code 0) (bare line) (renumbered (number_in numbers) line) → copy ≡ stripped_line lines line
    stripped-copy numbers copy ready table plain step = step ∙ by_zero (eqb line.tag.code 0) refl
      where
        here : line_at lines (i + 1) ≡ line
        here = ap (λ k. get_or lines k no_line) (let e : i + 1 - 1 ≡ i = omega arith in e) ∙ (get_or_default lines i no_line line small ∙ sym is)

        number : (n : ℕ) → n ≤ length lines → number_in numbers n ≡ stripped_number lines n
        number n most = ap (λ ns. get_or ns n 0) table ∙ get_or-map-range_with_len (stripped_number lines) 0 (length lines + 1) n n 0 (omega arith) (zero-add n)

        earlier : 0 < line.tag.code → All (λ k. k ≤ length lines) (cited line.rule)
        earlier some = let all = subst (λ (l : Line). 0 < l.tag.code → All (λ k. (0 < k) × ((k < i + 1) × IsTrue (stays (line_at lines k)))) (cited l.rule)) here (ready (i + 1) (omega arith) (omega arith)) some in
            All-weaker (λ k. (0 < k) × ((k < i + 1) × IsTrue (stays (line_at lines k)))) (λ k. k ≤ length lines) (λ k h. let low = h.1.0 in omega arith) (cited line.rule) all

        by_zero : (b : Bool) → eqb line.tag.code 0 ≡ b → (let l : Line = cond b (bare line) (renumbered (number_in numbers) line) in l) ≡ cond b (bare line) (renumbered (stripped_number lines) line)
        by_zero true e = refl
        by_zero false e = same-line (number_in numbers) (stripped_number lines) line plain
            (λ n m. number n (All-contains (λ k. k ≤ length lines) (cited line.rule) n (earlier (let apart = eqb-false line.tag.code 0 e in omega arith)) m))

  pub numbers-more : (i next : ℕ) (before after : List ℕ) → before ≡ numbers_to (i + 1) → after ≡ before ++ next ∷ [] → next ≡ stripped_number lines (i + 1) → after ≡ numbers_to (i + 1 + 1)
  numbers-more i next before after was step is =
      step ∙ (ap (λ ns. ns ++ next ∷ []) was ∙ (ap (λ n. numbers_to (i + 1) ++ n ∷ []) is
      ∙ sym (map-range_with_len_more (stripped_number lines) 0 (i + 1) (i + 1) (zero-add (i + 1)))))
