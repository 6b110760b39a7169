-- The rows of what each line ends.
use Rattle.std.proofs.Common.{◌≡◌, ℕ, zero, suc, ◌+◌, ◌-◌, ◌<◌, ◌≤◌, Bool, true, false, ◌&&◌, not, List, [], ◌∷◌, ◌++◌, length, replicate, filter, drop, slice_set, get_or, refl, ap, sym, subst, ◌∙◌, ◌⊎◌, inl, inr, arith, Contains, eqb, ltb, leb, cond}
use Rattle.std.specs.List.{range_with_len}
use Rattle.std.proofs.lemmas.Bool.{and_from, and_parts, cases_Bool, cases_lt, eqb-false, eqb-true, le-leb, leb-true, lt-ltb, not-true, not_from_false}
use Rattle.std.proofs.lemmas.List.{append-nil, get_or-drop, get_or-replicate, get_or-set_other, get_or-set_same, get_or_default, length-drop, length-replicate, length-set}
use Rattle.std.proofs.lemmas.List.Elements.{All-contains}
use Rattle.fapp_tables.proofs.FilterLaws.{filter-range_more}
use Rattle.fapp_model.proofs.Anys.{no-member, none-member, passing}
use Rattle.cert_lines.specs.declared.answer.Line.{Line}
use Rattle.cert_lines.specs.Renumbering.{cited}
use Rattle.cert_lines.specs.acceptance.Excluded.{line_at, no_line}
use Rattle.accept_laws.specs.Compacting.{IsCompactable, cites, ended, is_cited_behind, is_last_cite}
use Rattle.cert_merge.specs.Compacting.{AreEnded, AreLast, last_cite}

module _ (lines : List Line) where
  -- ---- the last line that cites a line

  -- no line after n up to m cites k
  abbrev IsAlone : ℕ → ℕ → ℕ → Type 0
  IsAlone n m k = (j : ℕ) → n < j → j ≤ m → cites (line_at lines j) k ≡ false

  last-from : (n m k : ℕ) → 0 < n → last_cite lines m k ≡ n → (cites (line_at lines n) k ≡ true) × ((n ≤ m) × IsAlone n m k)
  last-from n zero k low e = absurd (omega (arith, e))
  last-from n (suc m) k low e = by_cite (cites (line_at lines (suc m)) k) refl e (λ e. last-from n m k low e)
    where
      by_cite : (b : Bool) → cites (line_at lines (suc m)) k ≡ b → cond b (suc m) (last_cite lines m k) ≡ n → (last_cite lines m k ≡ n → (cites (line_at lines n) k ≡ true) × ((n ≤ m) × IsAlone n m k)) →
          (cites (line_at lines n) k ≡ true) × ((n ≤ suc m) × IsAlone n (suc m) k)
      by_cite true c e before = (subst (λ j. cites (line_at lines j) k ≡ true) e c, (omega (arith, e), λ j past most. absurd (omega (arith, e))))
      by_cite false c e before =
          let rest = before e in
          let most = rest.1.0 in (
            rest.0,
            (
              omega arith,
              λ j past high. elim (cases_lt m j) [
                | inl top ↦ subst (λ i. cites (line_at lines i) k ≡ false) (let s : suc m ≡ j = omega arith in s) c
                | inr within ↦ rest.1.1 j past within
              ],
            ),
          )

  last-to : (n m k : ℕ) → n ≤ m → 0 < n → cites (line_at lines n) k ≡ true → IsAlone n m k → last_cite lines m k ≡ n
  last-to n zero k most low c alone = absurd (omega arith)
  last-to n (suc m) k most low c alone = by_place (λ less. last-to n m k less low c (λ j past high. alone j past (omega arith))) (cases_lt m n)
    where
      by_place : (n ≤ m → last_cite lines m k ≡ n) → (m < n) ⊎ (n ≤ m) → last_cite lines (suc m) k ≡ n
      by_place before (inl top) =
          let same : suc m ≡ n = omega arith in
          ap (λ b. cond b (suc m) (last_cite lines m k)) (subst (λ j. cites (line_at lines j) k ≡ true) (sym same) c) ∙ same
      by_place before (inr less) = ap (λ b. cond b (suc m) (last_cite lines m k)) (alone (suc m) (omega arith) (omega arith)) ∙ before less

  behind-alone : (n k : ℕ) → is_cited_behind lines n k ≡ false → IsAlone n (length lines) k
  behind-alone n k e j past most = none-member (λ (line : Line). cites line k) (drop n lines) e (line_at lines j) (
    j - 1 - n,
    let l = length-drop n lines in omega arith,
    get_or-drop n lines (j - 1 - n) (line_at lines j) ∙ (ap (λ m. get_or lines m (line_at lines j)) (let e : n + (j - 1 - n) ≡ j - 1 = omega arith in e)
        ∙ get_or_default lines (j - 1) (line_at lines j) no_line (omega arith)),
  )

  alone-behind : (n k : ℕ) → IsAlone n (length lines) k → is_cited_behind lines n k ≡ false
  alone-behind n k alone = no-member (λ (line : Line). cites line k) (drop n lines) (λ line m. at line m)
    where
      at : (line : Line) → Contains (drop n lines) line → cites line k ≡ false
      at line (i, small, is) =
          let l = length-drop n lines in
          let inside : n + i < length lines = omega arith in
          let here : get_or lines (n + i + 1 - 1) no_line ≡ line = ap (λ m. get_or lines m no_line) (let e : n + i + 1 - 1 ≡ n + i = omega arith in e) ∙ (get_or_default lines (n + i) no_line line inside ∙ (sym (get_or-drop n lines i line) ∙ is)) in
          subst (λ (l : Line). cites l k ≡ false) here (alone (n + i + 1) (omega arith) (omega arith))

  pub last-within : (m k : ℕ) → last_cite lines m k ≤ m
  last-within zero k = omega arith
  last-within (suc m) k = by_cite (cites (line_at lines (suc m)) k) (last-within m k)
    where
      by_cite : (b : Bool) → last_cite lines m k ≤ m → cond b (suc m) (last_cite lines m k) ≤ suc m
      by_cite true h = omega arith
      by_cite false h = omega arith

  -- ---- what a line ends, by the table

  module _ (last : List ℕ) (table : AreLast lines (length lines) last) where
    pub ends-yes : (n k : ℕ) → 0 < k → k ≤ length lines → 0 < n → get_or last k 0 ≡ n → 2 ≤ length (line_at lines k).lits → is_last_cite lines n k ≡ true
    ends-yes n k some most low e long =
        let f = last-from n (length lines) k low (sym (table.at k most) ∙ e) in
        and_from (ltb 0 k && leb 2 (length (line_at lines k).lits)) (cites (line_at lines n) k && not (is_cited_behind lines n k))
        (and_from (ltb 0 k) (leb 2 (length (line_at lines k).lits)) (lt-ltb 0 k some) (le-leb 2 (length (line_at lines k).lits) long))
        (and_from (cites (line_at lines n) k) (not (is_cited_behind lines n k)) f.0 (not_from_false (is_cited_behind lines n k) (alone-behind n k f.1.1)))

    ends-last : (n k : ℕ) → 0 < n → n ≤ length lines → k ≤ length lines → is_last_cite lines n k ≡ true → (get_or last k 0 ≡ n) × (2 ≤ length (line_at lines k).lits)
    ends-last n k low high most e =
        let parts = and_parts (ltb 0 k && leb 2 (length (line_at lines k).lits)) (cites (line_at lines n) k && not (is_cited_behind lines n k)) e in
        let cite = and_parts (cites (line_at lines n) k) (not (is_cited_behind lines n k)) parts.1 in (
          table.at k most ∙ last-to n (length lines) k high low cite.0 (behind-alone n k (not-true (is_cited_behind lines n k) cite.1)),
          leb-true 2 (length (line_at lines k).lits) (and_parts (ltb 0 k) (leb 2 (length (line_at lines k).lits)) parts.0).1,
        )

    pub ends-no : (n k : ℕ) → 0 < n → n ≤ length lines → k ≤ length lines → (get_or last k 0 ≡ n → 2 ≤ length (line_at lines k).lits → ⊥) → is_last_cite lines n k ≡ false
    ends-no n k low high most apart = elim (cases_Bool (is_last_cite lines n k)) [
      | inl ends ↦ (let e = ends-last n k low high most ends in absurd (apart e.0 e.1))
      | inr free ↦ free
    ]

  -- ---- the rows fill up

  -- rows have for each line what it ends of the first i
  pub record AreFilled (i : ℕ) (rows : List (List ℕ)) : Type 0 where
    pub long : length rows ≡ length lines + 1
    pub at : (n : ℕ) → 0 < n → n ≤ length lines → get_or rows n [] ≡ filter (is_last_cite lines n) (range_with_len 0 (i + 1))

  pub filled-none : (rows : List (List ℕ)) → rows ≡ replicate (length lines + 1) [] → AreFilled 0 rows
  filled-none rows is = record {
    long = ap (λ (rs : List (List ℕ)). length rs) is ∙ length-replicate {A = List ℕ} (length lines + 1) [];
    at = λ n low most. ap (λ rs. get_or rs n []) is ∙ get_or-replicate (length lines + 1) n [] [] (omega arith);
  }

  kept-yes : (p : ℕ → Bool) (a : ℕ) → p a ≡ true → filter p (range_with_len 0 (a + 1)) ≡ filter p (range_with_len 0 a) ++ a ∷ []
  kept-yes p a e = filter-range_more p a ∙ ap (λ b. filter p (range_with_len 0 a) ++ cond b (a ∷ []) []) e

  kept-no : (p : ℕ → Bool) (a : ℕ) → p a ≡ false → filter p (range_with_len 0 (a + 1)) ≡ filter p (range_with_len 0 a)
  kept-no p a e = filter-range_more p a ∙ (ap (λ b. filter p (range_with_len 0 a) ++ cond b (a ∷ []) []) e ∙ append-nil (filter p (range_with_len 0 a)))

  module _ (last : List ℕ) (table : AreLast lines (length lines) last) (i : ℕ) (rows : List (List ℕ)) (small : i < length lines) (was : AreFilled i rows) where
    -- a line that no line ends, or of one literal or none
    pub filled-same : (get_or last (i + 1) 0 ≡ 0) ⊎ (length (line_at lines (i + 1)).lits < 2) → AreFilled (i + 1) rows
    filled-same free = record {
      long = was.long;
      at = λ n low most. was.at n low most ∙ sym (kept-no (is_last_cite lines n) (i + 1) (ends-no last table n (i + 1) low most (omega arith) (λ e long. apart n low e long free)));
    }
      where
        apart : (n : ℕ) → 0 < n → get_or last (i + 1) 0 ≡ n → 2 ≤ length (line_at lines (i + 1)).lits → (get_or last (i + 1) 0 ≡ 0) ⊎ (length (line_at lines (i + 1)).lits < 2) → ⊥
        apart n low e long (inl none) = omega (arith, low, e, none)
        apart n low e long (inr few) = omega (arith, long, few)

    -- one of two or more that a line ends
    pub filled-more : (m : ℕ) (next : List (List ℕ)) → get_or last (i + 1) 0 ≡ m → 0 < m → 2 ≤ length (line_at lines (i + 1)).lits → m < length rows → next ≡ slice_set rows m (get_or rows m [] ++ (i + 1) ∷ []) → AreFilled (i + 1) next
    filled-more m next is some long inside made = record {
      long = ap (λ (rs : List (List ℕ)). length rs) made ∙ (length-set rows m (get_or rows m [] ++ (i + 1) ∷ []) ∙ was.long);
      at = λ n low most. ap (λ rs. get_or rs n []) made ∙ by_same n low most (eqb m n) refl;
    }
      where
        row : List ℕ
        row = get_or rows m [] ++ (i + 1) ∷ []

        by_same : (n : ℕ) → 0 < n → n ≤ length lines → (b : Bool) → eqb m n ≡ b → get_or (slice_set rows m row) n [] ≡ filter (is_last_cite lines n) (range_with_len 0 (i + 1 + 1))
        by_same n low most true e =
            subst (λ j. get_or (slice_set rows m row) j [] ≡ filter (is_last_cite lines j) (range_with_len 0 (i + 1 + 1))) (eqb-true m n e)
            (get_or-set_same rows m row [] inside ∙ (ap (λ r. r ++ (i + 1) ∷ []) (was.at m some (let l = was.long in omega arith))
            ∙ sym (kept-yes (is_last_cite lines m) (i + 1) (ends-yes last table m (i + 1) (omega arith) (omega arith) some is long))))
        by_same n low most false e =
            get_or-set_other rows m n row [] (λ same. eqb-false m n e (sym same))
            ∙ (was.at n low most ∙ sym (kept-no (is_last_cite lines n) (i + 1) (ends-no last table n (i + 1) low most (omega arith) (λ f long. eqb-false m n e (sym is ∙ f)))))

  -- ---- a line ends only earlier ones

  module _ (ready : (n : ℕ) → 0 < n → n ≤ length lines → IsCompactable lines n) where
    ends-earlier : (n k : ℕ) → 0 < n → n ≤ length lines → n ≤ k → is_last_cite lines n k ≡ false
    ends-earlier n k low most past = elim (cases_Bool (is_last_cite lines n k)) [
      | inr free ↦ free
      | inl ends ↦ (let parts = and_parts (ltb 0 k && leb 2 (length (line_at lines k).lits)) (cites (line_at lines n) k && not (is_cited_behind lines n k)) ends in
          let found = passing (λ m. eqb m k) (cited (line_at lines n).rule) (and_parts (cites (line_at lines n) k) (not (is_cited_behind lines n k)) parts.1).0 in
          let before = All-contains (λ j. (0 < j) × (j < n)) (cited (line_at lines n).rule) found.item (ready n low most).earlier found.member in
          let same = eqb-true found.item k found.passes in
          let less = before.1 in absurd (omega (arith, past, same, less)))
    ]

    past-end : (n d : ℕ) → 0 < n → n ≤ length lines → filter (is_last_cite lines n) (range_with_len 0 (n + d)) ≡ ended lines n
    past-end n zero low most = ap (λ m. filter (is_last_cite lines n) (range_with_len 0 m)) (let e : n + 0 ≡ n = omega arith in e)
    past-end n (suc d) low most =
        ap (λ m. filter (is_last_cite lines n) (range_with_len 0 m)) (let e : n + suc d ≡ n + d + 1 = omega arith in e)
        ∙ (kept-no (is_last_cite lines n) (n + d) (ends-earlier n (n + d) low most (omega arith)) ∙ past-end n d low most)

    pub filled-all : (i : ℕ) (rows : List (List ℕ)) → length lines ≤ i → i ≤ length lines → AreFilled i rows → AreEnded lines rows
    filled-all i rows past within filled = record {
      long = filled.long;
      at = λ n low most. filled.at n low most ∙ (ap (λ m. filter (is_last_cite lines n) (range_with_len 0 m)) (let e : i + 1 ≡ n + (i + 1 - n) = omega arith in e) ∙ past-end n (i + 1 - n) low most);
    }
