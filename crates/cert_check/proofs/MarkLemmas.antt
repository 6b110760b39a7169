-- The index of lines of one literal.
use Rattle.std.proofs.Common.{◌≡◌, ℕ, ◌+◌, ◌-◌, ◌<◌, ◌≤◌, Bool, true, false, not, ◌&&◌, ltb, leb, List, length, take, get_or, ap, sym, ◌∙◌, inl, inr, All, arith}
use Rattle.std.specs.List.{list_any, range_with_len}
use Rattle.std.proofs.lemmas.Bool.{and_from, and_parts, lt-ltb, ltb-true}
use Rattle.std.proofs.lemmas.List.{get_or-take, length-take}
use Rattle.std.proofs.lemmas.List.Elements.{All-filter}
use Rattle.std.proofs.lemmas.List.FromFn.{length-range_with_len, get_or-range_with_len}
use Rattle.fapp_model.specs.declared.literal.Literal.{Literal}
use Rattle.fapp_model.specs.declared.tag.Tag.{Tag}
use Rattle.cert_lines.specs.declared.answer.Line.{Line}
use Rattle.fapp_model.specs.declared.instance.Instance.{Instance}
use Rattle.fapp_model.proofs.Anys.{any-member, passing}
use Rattle.fapp_model.proofs.Members.{from-range, in-range}
use Rattle.cert_lines.specs.WellFormed.{IsLineOrDelete}
use Rattle.cert_lines.specs.acceptance.Deleted.{is_delete, is_deleted, is_kept, kept}
use Rattle.cert_lines.specs.acceptance.Excluded.{no_line, is_only, is_marked, line_at}
use Rattle.cert_lines.proofs.Deleting.{kept-line, kept-there, plain-rule}
use Rattle.cert_check.specs.Marked.{line_on, ones_of, is_mark, has_mark}
use Rattle.cert_check.proofs.Filters.{any-filter, same-tests}

-- a line with a literal is no Delete line
only-plain : (instance : Instance) (line : Line) (a : Literal) → IsLineOrDelete instance line → is_only a line.lits ≡ true → is_delete line.rule ≡ false
only-plain instance line a (inl formed) e = plain-rule instance line.rule formed.rule
only-plain instance line a (inr deleting) e = absurd (no-literal (ap (is_only a) (sym deleting.lits) ∙ e))
  where
    no-literal : ◌≡◌ {A = Bool} false true → ⊥
    no-literal e = cc

-- positions of lines of one literal mark it where a line that is kept of the first n does
pub mark-ones : (instance : Instance) (lines : List Line) (n : ℕ) (t : Tag) (a : Literal) → All (IsLineOrDelete instance) lines → has_mark lines n t (ones_of lines a) ≡ is_marked (kept (take n lines)) t a
unfolding ones_of
mark-ones instance lines n t a formed = any-filter (is_mark lines n t) only (range_with_len 0 (length lines)) ∙ same-tests _ _ to from
  where
    only : ℕ → Bool
    only k = is_only a (line_on lines k).lits

    passes : Line → Bool
    passes line = is_only a line.lits && leb t.code line.tag.code

    to : list_any (λ k. is_only a (line_on lines k).lits && is_mark lines n t k) (range_with_len 0 (length lines)) ≡ true → list_any (λ line. is_only a line.lits && leb t.code line.tag.code) (kept (take n lines)) ≡ true
    to e =
        let found = passing (λ k. is_only a (line_on lines k).lits && is_mark lines n t k) (range_with_len 0 (length lines)) e in
        let k = found.item in
        let small = from-range (length lines) k found.member in
        let alone = and_parts (is_only a (line_on lines k).lits) (is_mark lines n t k) found.passes in
        let before = and_parts (ltb k n) (leb t.code (line_on lines k).tag.code && not (is_deleted (take n lines) (k + 1))) alone.1 in
        let stands = and_parts (leb t.code (line_on lines k).tag.code) (not (is_deleted (take n lines) (k + 1))) before.1 in
        let below = ltb-true k n before.0 in
        let high : k + 1 ≤ length (take n lines) = simp length-take (omega arith) in
        let number : k + 1 - 1 ≡ k = omega arith in
        let here : line_at (take n lines) (k + 1) ≡ line_on lines k = ap (λ j. get_or (take n lines) j no_line) number ∙ get_or-take n lines k no_line below in
        let plain = only-plain instance (line_on lines k) a (formed k no_line small) alone.0 in
        let kept_here : is_kept (take n lines) (k + 1) (line_at (take n lines) (k + 1)) ≡ true = ap (is_kept (take n lines) (k + 1)) here ∙ and_from (not (is_delete (line_on lines k).rule)) (not (is_deleted (take n lines) (k + 1))) (ap not plain) stands.1 in
        any-member (λ line. is_only a line.lits && leb t.code line.tag.code) (kept (take n lines)) (line_at (take n lines) (k + 1)) (kept-there (take n lines) (k + 1) (omega arith) high kept_here)
        (ap (λ line. is_only a line.lits && leb t.code line.tag.code) here ∙ and_from (is_only a (line_on lines k).lits) (leb t.code (line_on lines k).tag.code) alone.0 stands.0)

    from : list_any (λ line. is_only a line.lits && leb t.code line.tag.code) (kept (take n lines)) ≡ true → list_any (λ k. is_only a (line_on lines k).lits && is_mark lines n t k) (range_with_len 0 (length lines)) ≡ true
    from e =
        let found = passing (λ line. is_only a line.lits && leb t.code line.tag.code) (kept (take n lines)) e in
        let line = kept-line (take n lines) found.item found.member in
        let k = line.n - 1 in
        let bounds = within line.n line.low line.high in
        let same : line_on lines k ≡ found.item = sym (get_or-take n lines k no_line bounds.0) ∙ line.is in
        let alone = and_parts (is_only a found.item.lits) (leb t.code found.item.tag.code) found.passes in
        let stands = and_parts (not (is_delete (line_at (take n lines) line.n).rule)) (not (is_deleted (take n lines) line.n)) line.stays in
        let number : k + 1 ≡ line.n = omega (arith, line.low) in
        any-member (λ k. is_only a (line_on lines k).lits && is_mark lines n t k) (range_with_len 0 (length lines)) k (in-range (length lines) k bounds.1)
        (and_from (is_only a (line_on lines k).lits) (is_mark lines n t k) (ap (λ l. is_only a l.lits) same ∙ alone.0)
        (and_from (ltb k n) (leb t.code (line_on lines k).tag.code && not (is_deleted (take n lines) (k + 1))) (lt-ltb k n bounds.0)
        (and_from (leb t.code (line_on lines k).tag.code) (not (is_deleted (take n lines) (k + 1))) (ap (λ (l : Line). leb t.code l.tag.code) same ∙ alone.1) (ap (λ m. not (is_deleted (take n lines) m)) number ∙ stands.1))))
      where
        within : (m : ℕ) → 0 < m → m ≤ length (take n lines) → (m - 1 < n) × (m - 1 < length lines)
        within m low l = let e = simp length-take at l in (omega arith, omega arith)

pub ones-small : (lines : List Line) (a : Literal) → All (λ k. k < length lines) (ones_of lines a)
unfolding ones_of
ones-small lines a = All-filter (λ k. is_only a (line_on lines k).lits) (λ k. k < length lines) (range_with_len 0 (length lines))
    (λ k d l. let small : k < length lines = omega (arith, length-range_with_len 0 (length lines)) in omega (arith, get_or-range_with_len 0 (length lines) k d small))
