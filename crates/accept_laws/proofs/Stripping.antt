-- Good lines stay good without the Delete lines.
use Rattle.std.proofs.Common.{◌≡◌, ◌⊎◌, ℕ, zero, suc, ◌+◌, ◌-◌, ◌<◌, ◌≤◌, Bool, true, false, ◌&&◌, not, List, [], ◌∷◌, ◌++◌, length, map, filter, take, get_or, refl, ap, sym, subst, ◌∙◌, inl, inr, arith, None, All, Contains, leb, eqb, cond}
use Rattle.std.proofs.lemmas.Bool.{and_parts, cases_lt, eqb-false, not_from_false, not-true, true≢false}
use Rattle.std.proofs.lemmas.List.{append-nil, get_or_default, get_or-take, length-map, length-take, length_push, map-append, take_all, take_more}
use Rattle.std.proofs.lemmas.List.Sums.{count_by_more_yes, length-filter}
use Rattle.std.proofs.lemmas.List.Elements.{filter-append}
use Rattle.fapp_model.specs.declared.instance.Instance.{Instance}
use Rattle.fapp_model.specs.declared.tag.Tag.{Tag}
use Rattle.fapp_model.proofs.Anys.{any-member, passing}
use Rattle.fapp_model.proofs.Members.{All-from_members, from-filter, from-map, in-filter, in-map}
use Rattle.cert_lines.specs.declared.answer.Line.{Line}
use Rattle.cert_lines.specs.declared.answer.Rule.{Rule}
use Rattle.cert_lines.specs.declared.answer.Rule.TheVariants.{Branch, Count, Delete}
use Rattle.cert_lines.specs.WellFormed.{IsLineOrDelete, IsLine}
use Rattle.cert_lines.specs.acceptance.Deleted.{deletes, is_delete, is_deleted, kept}
use Rattle.cert_lines.specs.acceptance.Excluded.{is_marked, is_only, line_at, no_line}
use Rattle.cert_lines.specs.acceptance.LineFaults.{delete_fault, first_of, line_fault, rejected_at}
use Rattle.accept_laws.specs.Lines.{AreGood}
use Rattle.cert_lines.specs.Renumbering.{renumbered, renumbered_rule}
use Rattle.cert_lines.specs.Stripping.{bare_rule, stays, stripped, stripped_from, stripped_line, stripped_number}
use Rattle.cert_lines.proofs.Deleting.{IsPlain, all-stay, kept-line, none-deleted, plain-rule}
use Rattle.accept_laws.proofs.LineGrowth.{at-end, at-front, good-more}
use Rattle.accept_laws.proofs.Options.{both-none, mapped-none}
use Rattle.accept_laws.proofs.Renumbering.{KeepMarks, MayBeCited, Serves, line-clean}

-- a line keeps its tag and literals, and is no Delete line if it was none
module _ (all : List Line) where
  pub same-tag : (line : Line) → (stripped_line all line).tag.code ≡ line.tag.code
  same-tag line = by_zero (eqb line.tag.code 0)
    where
      by_zero : (b : Bool) → (let l : Line = cond b (record { tag = line.tag; lits = line.lits; rule = bare_rule line.rule }) (renumbered (stripped_number all) line) in l).tag.code ≡ line.tag.code
      by_zero true = refl
      by_zero false = refl

  pub same-lits : (line : Line) → (stripped_line all line).lits ≡ line.lits
  same-lits line = by_zero (eqb line.tag.code 0)
    where
      by_zero : (b : Bool) → (let l : Line = cond b (record { tag = line.tag; lits = line.lits; rule = bare_rule line.rule }) (renumbered (stripped_number all) line) in l).lits ≡ line.lits
      by_zero true = refl
      by_zero false = refl

  plain-bare : (rule : Rule) → is_delete (bare_rule rule) ≡ is_delete rule
  plain-bare (Count cites) = refl
  plain-bare (Branch path children) = refl
  plain-bare (Delete cites) = refl

  plain-renumbered : (number : ℕ → ℕ) (rule : Rule) → is_delete (renumbered_rule number rule) ≡ is_delete rule
  plain-renumbered number (Count cites) = refl
  plain-renumbered number (Branch path children) = refl
  plain-renumbered number (Delete cites) = refl

  same-kind : (line : Line) → is_delete (stripped_line all line).rule ≡ is_delete line.rule
  same-kind line = by_zero (eqb line.tag.code 0)
    where
      by_zero : (b : Bool) → is_delete (let l : Line = cond b (record { tag = line.tag; lits = line.lits; rule = bare_rule line.rule }) (renumbered (stripped_number all) line) in l).rule ≡ is_delete line.rule
      by_zero true = plain-bare line.rule
      by_zero false = plain-renumbered (stripped_number all) line.rule

  -- ---- the first lines, stripped

  abbrev pub front : ℕ → List Line
  front n = stripped_from all (take n all)

  length-front : (n : ℕ) → length (front n) ≡ stripped_number all n
  length-front n = length-map (filter stays (take n all)) (stripped_line all) ∙ length-filter stays (take n all)

  abbrev line_on : ℕ → Line
  line_on n = get_or all n no_line

  front-more : (n : ℕ) → n < length all → (b : Bool) → stays (line_on n) ≡ b → front (n + 1) ≡ cond b (front n ++ stripped_line all (line_on n) ∷ []) (front n)
  front-more n small b e =
      ap (λ ls. map (stripped_line all) (filter stays ls)) (take_more all n no_line small)
      ∙ (ap (map (stripped_line all)) (filter-append stays (take n all) (line_on n ∷ []))
      ∙ (map-append (stripped_line all) (filter stays (take n all)) (filter stays (line_on n ∷ [])) ∙ by_stays b e))
    where
      by_stays : (b : Bool) → stays (line_on n) ≡ b → front n ++ map (stripped_line all) (filter stays (line_on n ∷ [])) ≡ cond b (front n ++ stripped_line all (line_on n) ∷ []) (front n)
      by_stays true e = rw e refl
      by_stays false e = rw e (append-nil (front n))

  -- where a line stands among the stripped ones
  pub record IsStripped (n k m : ℕ) : Type 0 where
    pub low : 0 < stripped_number all m
    pub high : stripped_number all m ≤ length (front n)
    pub is : line_at (front n) (stripped_number all m) ≡ stripped_line all (line_on k)

  pub there : (n k : ℕ) → n ≤ length all → k < n → stays (line_on k) ≡ true → IsStripped n k (k + 1)
  there zero k most small e = absurd (omega arith)
  there (suc n) k most small e = subst (λ m. IsStripped m k (k + 1)) (let s : n + 1 ≡ suc n = omega arith in s) (by_place (λ less. there n k (omega arith) less e) (cases_lt k n))
    where
      grown : (out : List Line) → out ≡ front n ⊎ (line : Line) × (out ≡ front n ++ line ∷ []) → IsStripped n k (k + 1) → IsStripped (n + 1) k (k + 1)
      grown out how h = by_stays (stays (line_on n)) refl
        where
          by_stays : (b : Bool) → stays (line_on n) ≡ b → IsStripped (n + 1) k (k + 1)
          by_stays true is = let e = front-more n (omega arith) true is in record {
            low = h.low;
            high = (let l = ap length e in let p = length_push (front n) (stripped_line all (line_on n)) in let hh = h.high in omega arith);
            is = ap (λ ls. line_at ls (stripped_number all (k + 1))) e ∙ (at-front (front n) (stripped_line all (line_on n) ∷ []) (stripped_number all (k + 1)) h.low h.high ∙ h.is);
          }
          by_stays false is = let e = front-more n (omega arith) false is in record {
            low = h.low;
            high = (let l = ap length e in let hh = h.high in omega arith);
            is = ap (λ ls. line_at ls (stripped_number all (k + 1))) e ∙ h.is;
          }

      last : k ≡ n → IsStripped (n + 1) k (k + 1)
      last same =
          let stays_n : stays (line_on n) ≡ true = subst (λ m. stays (line_on m) ≡ true) same e in
          let whole = front-more n (omega arith) true stays_n in
          let count : stripped_number all (k + 1) ≡ length (front n) + 1 =
          subst (λ m. stripped_number all (m + 1) ≡ length (front n) + 1) (sym same) (count_by_more_yes stays all n no_line (omega arith) stays_n ∙ ap (λ m. m + 1) (sym (length-front n))) in
          record {
            low = omega arith;
            high = (let l = ap length whole in let p = length_push (front n) (stripped_line all (line_on n)) in omega arith);
            is = ap (λ ls. line_at ls (stripped_number all (k + 1))) whole ∙ (ap (λ m. line_at (front n ++ stripped_line all (line_on n) ∷ []) m) count
                ∙ (at-end (front n) (stripped_line all (line_on n)) ∙ ap (λ m. stripped_line all (line_on m)) (sym same)));
          }

      by_place : (k < n → IsStripped n k (k + 1)) → (k < n) ⊎ (n ≤ k) → IsStripped (n + 1) k (k + 1)
      by_place before (inl less) = grown (front n) (inl refl) (before less)
      by_place before (inr past) = last (omega arith)

  -- ---- what they mark and say

  pub front-plain : (n : ℕ) → All IsPlain (front n)
  front-plain n = All-from_members IsPlain (front n) (λ x m.
      let found = from-map (stripped_line all) (filter stays (take n all)) x m in
      let passed = from-filter stays (take n all) found.0 found.1 in
      subst IsPlain found.2 (same-kind found.0 ∙ not-true (is_delete found.0.rule) passed.1))

  front-marks : (n : ℕ) → KeepMarks (take n all) (front n)
  front-marks n t a some h =
      let found = passing (λ line. is_only a line.lits && leb t.code line.tag.code) (kept (take n all)) h in
      let k = kept-line (take n all) found.item found.member in
      let parts = and_parts (not (is_delete (line_at (take n all) k.n).rule)) (not (is_deleted (take n all) k.n)) k.stays in
      let low = k.low in
      let high = k.high in
      let member : Contains (take n all) found.item = (k.n - 1, omega arith, get_or_default (take n all) (k.n - 1) found.item no_line (omega arith) ∙ k.is) in
      let plain : stays found.item ≡ true = subst (λ (x : Line). stays x ≡ true) k.is parts.0 in
      subst (λ ls. is_marked ls t a ≡ true) (sym (all-stay (front n) (front-plain n)))
      (any-member (λ line. is_only a line.lits && leb t.code line.tag.code) (front n) (stripped_line all found.item)
      (in-map (stripped_line all) (filter stays (take n all)) found.item (in-filter stays (take n all) found.item member plain))
      (rw (same-lits found.item, same-tag found.item) found.passes))

module _ (instance : Instance) (all : List Line) (formed : All (IsLineOrDelete instance) all) where
  -- an entry above (0, 0, 0) is no Delete line
  pub above-stays : (line : Line) → IsLineOrDelete instance line → 0 < line.tag.code → stays line ≡ true
  above-stays line (inl is) some = not_from_false (is_delete line.rule) (plain-rule instance line.rule is.rule)
  above-stays line (inr is) some = absurd (let e = is.tag in omega arith)

  pub stays-line : (line : Line) → IsLineOrDelete instance line → stays line ≡ true → IsLine instance line
  stays-line line (inl is) e = is
  stays-line line (inr is) e = absurd (true≢false (sym e ∙ ap (λ r. not (is_delete r)) is.rule))

  front-serves : (n : ℕ) → n ≤ length all → (t : Tag) → 0 < t.code → (j : ℕ) → MayBeCited (take n all) t j → Serves (take n all) (front all n) j (stripped_number all j)
  front-serves n most t some j may =
      let low = may.low in
      let high = may.high in
      let count = length-take n all in
      let same : j - 1 + 1 ≡ j = omega arith in
      let before : line_at (take n all) j ≡ get_or all (j - 1) no_line = get_or-take n all (j - 1) no_line (omega arith) in
      let above : 0 < (get_or all (j - 1) no_line).tag.code = (let e = ap (λ (l : Line). l.tag.code) before in let r = may.tag in omega arith) in
      let h = subst (IsStripped all n (j - 1)) same (there all n (j - 1) most (omega arith) (above-stays (get_or all (j - 1) no_line) (formed (j - 1) no_line (omega arith)) above)) in
      record {
        low = h.low;
        high = h.high;
        stays = none-deleted (front all n) (stripped_number all j) (front-plain all n);
        tag = ap (λ (l : Line). l.tag.code) h.is ∙ (same-tag all (get_or all (j - 1) no_line) ∙ ap (λ (l : Line). l.tag.code) (sym before));
        lits = ap (λ (l : Line). l.lits) h.is ∙ (same-lits all (get_or all (j - 1) no_line) ∙ ap (λ (l : Line). l.lits) (sym before));
      }

  bare-clean : (out : List Line) (rule : Rule) → is_delete rule ≡ false → first_of (delete_fault out) (deletes (bare_rule rule)) ≡ None
  bare-clean out (Count cites) e = refl
  bare-clean out (Branch path children) e = refl
  bare-clean out (Delete cites) e = absurd (cc)

  -- a line at the tag (0, 0, 0) is bare, and another one is good by what it cites
  next-good : (n : ℕ) → n < length all → stays (get_or all n no_line) ≡ true → line_fault instance (take n all) (get_or all n no_line) ≡ None → line_fault instance (front all n) (stripped_line all (get_or all n no_line)) ≡ None
  unfolding line_fault
  next-good n small e clean = by_zero (eqb line.tag.code 0) refl
    where
      line : Line
      line = get_or all n no_line

      is : IsLine instance line
      is = stays-line line (formed n no_line small) e

      at-zero : eqb line.tag.code 0 ≡ true → line_fault instance (front all n) (record { tag = line.tag; lits = line.lits; rule = bare_rule line.rule }) ≡ None
      at-zero z = both-none (first_of (delete_fault (front all n)) (deletes (bare_rule line.rule))) _ (bare-clean (front all n) line.rule (not-true (is_delete line.rule) e)) (rw z refl)

      by_zero : (b : Bool) → eqb line.tag.code 0 ≡ b →
          line_fault instance (front all n) (let l : Line = cond b (record { tag = line.tag; lits = line.lits; rule = bare_rule line.rule }) (renumbered (stripped_number all) line) in l) ≡ None
      by_zero true z = at-zero z
      by_zero false z =
          let some : 0 < line.tag.code = (let apart = eqb-false line.tag.code 0 z in omega arith) in
          line-clean instance (take n all) (front all n) (stripped_number all) line (λ j m may. front-serves n (omega arith) line.tag some j may) (front-marks all n) is clean

  fronts-good : AreGood instance all → (n : ℕ) → n ≤ length all → AreGood instance (front all n)
  fronts-good good zero most = λ k small. absurd (omega arith)
  fronts-good good (suc n) most = subst (λ m. AreGood instance (front all m)) (let s : n + 1 ≡ suc n = omega arith in s) (step (fronts-good good n (omega arith)) (stays (get_or all n no_line)) refl)
    where
      clean : line_fault instance (take n all) (get_or all n no_line) ≡ None
      clean = subst (λ m. line_fault instance (take n all) (get_or all m no_line) ≡ None) (let s : n + 1 - 1 ≡ n = omega arith in s)
          (mapped-none (rejected_at (n + 1)) (line_fault instance (take n all) (line_at all (n + 1))) (good n (omega arith)))

      step : AreGood instance (front all n) → (b : Bool) → stays (get_or all n no_line) ≡ b → AreGood instance (front all (n + 1))
      step before true e = subst (AreGood instance) (sym (front-more all n (omega arith) true e)) (good-more instance (front all n) (stripped_line all (get_or all n no_line)) before (next-good n (omega arith) e clean))
      step before false e = subst (AreGood instance) (sym (front-more all n (omega arith) false e)) before

  pub stripped-good : AreGood instance all → AreGood instance (stripped all)
  unfolding stripped
  stripped-good good = subst (λ ls. AreGood instance (stripped_from all ls)) (take_all (length all) all (omega arith)) (fronts-good good (length all) (omega arith))
