-- Good lines stay good with Delete lines for what is cited no more.
use Rattle.std.proofs.Common.{◌≡◌, ◌⊎◌, ℕ, zero, suc, ◌+◌, ◌-◌, ◌<◌, ◌≤◌, Bool, true, false, ◌&&◌, ◌||◌, not, List, [], ◌∷◌, ◌++◌, length, map, take, drop, get_or, refl, ap, sym, subst, ◌∙◌, inl, inr, arith, None, All, Contains, ltb, leb, eqb, cond}
use Rattle.std.specs.List.{list_any, range_with_len}
use Rattle.std.proofs.lemmas.Bool.{and_from, and_parts, cases_Bool, cases_lt, eq-eqb, eqb-true, leb-true, lt-ltb, ltb-true, le-leb, not_from_false, not-true, or_cases, true≢false}
use Rattle.std.proofs.lemmas.List.{append-nil, get_or-drop, get_or-take, get_or_default, length-append, length-drop, length-take, length_push, append_assoc}
use Rattle.std.proofs.lemmas.List.Folds.{list_any-append}
use Rattle.fapp_model.specs.declared.instance.Instance.{Instance}
use Rattle.fapp_model.specs.declared.literal.Literal.{Literal}
use Rattle.fapp_model.specs.declared.tag.Tag.{Tag}
use Rattle.fapp_model.proofs.Anys.{any-member, passing}
use Rattle.fapp_model.proofs.Members.{All-from_members, from-filter, from-map, from-range, front_or_behind, no_member}
use Rattle.cert_lines.specs.declared.answer.Line.{Line}
use Rattle.cert_lines.specs.declared.answer.Rule.{Rule}
use Rattle.cert_lines.specs.declared.answer.Rule.TheVariants.{Branch, Count, Delete}
use Rattle.cert_lines.specs.declared.reject.RejectCause.TheVariants.{DeleteNotEarlier, DeletedTwice}
use Rattle.cert_lines.specs.WellFormed.{IsLine}
use Rattle.cert_lines.specs.acceptance.Deleted.{deletes, is_delete, is_deleted, kept}
use Rattle.cert_lines.specs.acceptance.Excluded.{is_marked, is_only, line_at, no_line}
use Rattle.cert_lines.specs.acceptance.LineFaults.{cause_unless, delete_fault, first_of, line_fault, rejected_at}
use Rattle.accept_laws.specs.Lines.{AreGood}
use Rattle.cert_lines.specs.Renumbering.{cited, renumbered, renumbered_rule}
use Rattle.accept_laws.specs.Compacting.{cites, compacted, compacted_at, compacted_number, compacted_to, delete_behind, delete_line, ended, ending, is_cited_behind, is_empty, is_last_cite}
use Rattle.cert_lines.proofs.Deleting.{IsPlain, all-stay, formed-plain, kept-there, plain-deletes}
use Rattle.accept_laws.proofs.Having.{only-literal}
use Rattle.accept_laws.proofs.LineGrowth.{at-end, at-front, good-more}
use Rattle.accept_laws.proofs.Options.{both-none, mapped-none, none-first_of}
use Rattle.accept_laws.proofs.Renumbering.{KeepMarks, MayBeCited, Serves, line-clean, passes-none}

module _ (lines : List Line) where
  abbrev front : ℕ → List Line
  front n = compacted_to lines n

  abbrev number : ℕ → ℕ
  number = compacted_number lines

  -- ---- where the lines stand

  length-behind : (n : ℕ) → length (delete_behind lines n) ≡ cond (is_empty (ended lines n)) 0 1
  length-behind n = by_empty (is_empty (ended lines n))
    where
      by_empty : (b : Bool) → length (cond b [] (delete_line (map (compacted_number lines) (ended lines n)) ∷ [])) ≡ cond b 0 1
      by_empty true = refl
      by_empty false = refl

  pub length-front : (n : ℕ) → length (front n) ≡ n + ending lines n
  length-front zero = refl
  length-front (suc n) =
      let before = length-front n in
      let more = length-append (front n) (compacted_at lines (suc n)) in
      let last = length-behind (suc n) in omega arith

  ending-rises : (n m : ℕ) → n ≤ m → ending lines n ≤ ending lines m
  ending-rises n zero most = subst (λ k. ending lines k ≤ 0) (let e : 0 ≡ n = omega arith in e) (let z : ending lines 0 ≤ 0 = omega arith in z)
  ending-rises n (suc m) most = elim (cases_lt m n) [
    | inl over ↦ subst (λ k. ending lines n ≤ ending lines k) (let e : n ≡ suc m = omega arith in e) (let z : ending lines n ≤ ending lines n = omega arith in z)
    | inr within ↦ (let rest = ending-rises n m within in omega arith)
  ]

  -- numbers rise
  pub number-rises : (i j : ℕ) → i < j → number i < number j
  number-rises i j less = let e = ending-rises (i - 1) (j - 1) (omega arith) in omega arith

  same-number : (i j : ℕ) → number i ≡ number j → i ≡ j
  same-number i j e = elim (cases_lt i j) [
    | inl less ↦ absurd (let r = number-rises i j less in omega arith)
    | inr past ↦ elim (cases_lt j i) [ inl more ↦ absurd (let r = number-rises j i more in omega arith) | inr most ↦ (let s : i ≡ j = omega arith in s) ]
  ]

  pub number-last : (n : ℕ) → number (suc n) ≡ length (front n) + 1
  number-last n = let l = length-front n in let e : suc n - 1 ≡ n = omega arith in let f = ap (λ m. ending lines m) e in omega arith

  pub within : (n k : ℕ) → 0 < k → k ≤ n → number k ≤ length (front n)
  within n k low high = let l = length-front n in let e = ending-rises (k - 1) n (omega arith) in omega arith

  abbrev pub new_line : ℕ → Line
  new_line k = renumbered number (line_at lines k)

  pub stands-at : (n k : ℕ) → 0 < k → k ≤ n → line_at (front n) (number k) ≡ new_line k
  stands-at zero k low high = absurd (omega arith)
  stands-at (suc n) k low high = by_place (λ less. stands-at n k low less) (cases_lt n k)
    where
      by_place : (k ≤ n → line_at (front n) (number k) ≡ new_line k) → (n < k) ⊎ (k ≤ n) → line_at (front (suc n)) (number k) ≡ new_line k
      by_place before (inr less) = at-front (front n) (compacted_at lines (suc n)) (number k) (omega arith) (within n k low less) ∙ before less
      by_place before (inl last) =
          let same : suc n ≡ k = omega arith in
          subst (λ m. line_at (front (suc n)) (number m) ≡ new_line m) same
          (ap (λ ls. line_at ls (number (suc n))) (sym (append_assoc (front n) (new_line (suc n) ∷ []) (delete_behind lines (suc n))))
          ∙ (at-front (front n ++ new_line (suc n) ∷ []) (delete_behind lines (suc n)) (number (suc n)) (omega arith) (let e = number-last n in let p = length_push (front n) (new_line (suc n)) in omega arith)
          ∙ (ap (λ m. line_at (front n ++ new_line (suc n) ∷ []) m) (number-last n) ∙ at-end (front n) (new_line (suc n)))))

  -- ---- what they delete

  -- a line that deletes nothing
  deletes-none : (out : List Line) (line : Line) (m : ℕ) → is_delete line.rule ≡ false → is_deleted (out ++ line ∷ []) m ≡ is_deleted out m
  deletes-none out line m plain = list_any-append (λ (l : Line). list_any (λ k. eqb k m) (deletes l.rule)) out (line ∷ []) ∙ rw (plain-deletes line.rule plain) (by_bool (is_deleted out m))
    where
      by_bool : (b : Bool) → (b || false) ≡ b
      by_bool true = refl
      by_bool false = refl

  pub plain-renumbered : (f : ℕ → ℕ) (rule : Rule) → is_delete rule ≡ false → is_delete (renumbered_rule f rule) ≡ false
  plain-renumbered f (Count cites) e = refl
  plain-renumbered f (Branch path children) e = refl
  plain-renumbered f (Delete cites) e = e

  -- the first line that ends a line
  record IsEndedBy (n k : ℕ) : Type 0 where
    pub by : ℕ
    pub low : 0 < by
    pub high : by ≤ n
    pub last : is_last_cite lines by k ≡ true

  module _ (plain : All IsPlain lines) where
    pub plain-at : (n : ℕ) → n < length lines → is_delete (line_at lines (suc n)).rule ≡ false
    plain-at n small = let e : suc n - 1 ≡ n = omega arith in subst (λ m. is_delete (get_or lines m no_line).rule ≡ false) (sym e) (plain n no_line small)

    in-ended : (n k : ℕ) → Contains (map number (ended lines n)) (number k) → is_last_cite lines n k ≡ true
    in-ended n k m =
        let found = from-map number (ended lines n) (number k) m in
        let same = same-number found.0 k found.2 in
        subst (λ j. is_last_cite lines n j ≡ true) same (from-filter (is_last_cite lines n) (range_with_len 0 n) found.0 found.1).1

    by-delete : (n k : ℕ) → is_deleted (delete_behind lines n) (number k) ≡ true → is_last_cite lines n k ≡ true
    by-delete n k h = by_empty (is_empty (ended lines n)) h
      where
        by_empty : (b : Bool) → is_deleted (cond b [] (delete_line (map number (ended lines n)) ∷ [])) (number k) ≡ true → is_last_cite lines n k ≡ true
        by_empty true h = absurd (cc)
        by_empty false h =
            let found = passing (λ (line : Line). list_any (λ m. eqb m (number k)) (deletes line.rule)) (delete_line (map number (ended lines n)) ∷ []) h in
            elim (front_or_behind (delete_line (map number (ended lines n))) [] found.item found.member) [
              | inl here ↦ (let named = passing (λ m. eqb m (number k)) (map number (ended lines n)) (subst (λ (line : Line). list_any (λ m. eqb m (number k)) (deletes line.rule) ≡ true) (sym here) found.passes) in
                  in-ended n k (subst (Contains (map number (ended lines n))) (eqb-true named.item (number k) named.passes) named.member))
              | inr none ↦ absurd (no_member found.item none)
            ]

    deleted-by : (n k : ℕ) → n ≤ length lines → is_deleted (front n) (number k) ≡ true → IsEndedBy n k
    deleted-by zero k most h = absurd (cc)
    deleted-by (suc n) k most h =
        let parts = sym (list_any-append (λ (l : Line). list_any (λ m. eqb m (number k)) (deletes l.rule)) (front n) (compacted_at lines (suc n))) ∙ h in
        elim (or_cases (is_deleted (front n) (number k)) (is_deleted (compacted_at lines (suc n)) (number k)) parts) [
          | inl before ↦ later (deleted-by n k (omega arith) before)
          | inr here ↦ record { by = suc n; low = omega arith; high = omega arith; last = by-delete (suc n) k (without here) }
        ]
      where
        later : IsEndedBy n k → IsEndedBy (suc n) k
        later e = record { by = e.by; low = e.low; high = (let l = e.high in omega arith); last = e.last }

        without : is_deleted (compacted_at lines (suc n)) (number k) ≡ true → is_deleted (delete_behind lines (suc n)) (number k) ≡ true
        without g = rw (plain-deletes (renumbered_rule number (line_at lines (suc n)).rule) (plain-renumbered number (line_at lines (suc n)).rule (plain-at n (omega arith)))) at g

    -- what the next line cites is not deleted
    not-before : (n k : ℕ) → n < length lines → cites (line_at lines (suc n)) k ≡ true → is_deleted (front n) (number k) ≡ false
    not-before n k small named = elim (cases_Bool (is_deleted (front n) (number k))) [
      | inr kept ↦ kept
      | inl gone ↦ (let e = deleted-by n k (omega arith) gone in
          let parts = and_parts (ltb 0 k && leb 2 (length (line_at lines k).lits)) (cites (line_at lines e.by) k && not (is_cited_behind lines e.by k)) e.last in
          let last = and_parts (cites (line_at lines e.by) k) (not (is_cited_behind lines e.by k)) parts.1 in
          absurd (true≢false (sym (behind-it e.by e.high) ∙ not-true (is_cited_behind lines e.by k) last.1)))
    ]
      where
        behind-it : (j : ℕ) → j ≤ n → is_cited_behind lines j k ≡ true
        behind-it j most = any-member (λ (line : Line). cites line k) (drop j lines) (line_at lines (suc n)) (
          n - j,
          let l = length-drop j lines in omega arith,
          get_or-drop j lines (n - j) (line_at lines (suc n)) ∙ (ap (λ m. get_or lines m (line_at lines (suc n))) (let e : j + (n - j) ≡ n = omega arith in e)
              ∙ (get_or_default lines n (line_at lines (suc n)) no_line small ∙ ap (λ m. get_or lines m no_line) (let e : n ≡ suc n - 1 = omega arith in e))),
        ) named

    -- a line of one literal is never deleted
    pub one-stays : (n k : ℕ) → n ≤ length lines → length (line_at lines k).lits < 2 → is_deleted (front n) (number k) ≡ false
    one-stays n k most few = elim (cases_Bool (is_deleted (front n) (number k))) [
      | inr kept ↦ kept
      | inl gone ↦ (let e = deleted-by n k most gone in
          let parts = and_parts (ltb 0 k && leb 2 (length (line_at lines k).lits)) (cites (line_at lines e.by) k && not (is_cited_behind lines e.by k)) e.last in
          absurd (let l = leb-true 2 (length (line_at lines k).lits) (and_parts (ltb 0 k) (leb 2 (length (line_at lines k).lits)) parts.0).1 in omega arith))
    ]

-- ---- the compacted lines are good

module _ (instance : Instance) (lines : List Line) (formed : All (IsLine instance) lines) where
  plain : All IsPlain lines
  plain = formed-plain instance lines formed

  plain-take : (n : ℕ) → All IsPlain (take n lines)
  plain-take n = λ i d small. let l = length-take n lines in rw (get_or-take n lines i d (omega arith)) (plain i d (omega arith))

  marks : (n : ℕ) → n ≤ length lines → KeepMarks (take n lines) (front lines n)
  marks n most t a some h =
      let found = passing (λ line. is_only a line.lits && leb t.code line.tag.code) (take n lines) (subst (λ ls. is_marked ls t a ≡ true) (all-stay (take n lines) (plain-take n)) h) in
      place found.item found.member found.passes
    where
      place : (item : Line) → Contains (take n lines) item → (is_only a item.lits && leb t.code item.tag.code) ≡ true → is_marked (kept (front lines n)) t a ≡ true
      place item (i, small, is) passes =
          let count = length-take n lines in
          let less : i < n = omega arith in
          let first : suc i - 1 ≡ i = omega arith in
          let at : line_at lines (suc i) ≡ item = ap (λ m. get_or lines m no_line) first ∙ (get_or_default lines i no_line item (omega arith) ∙ (sym (get_or-take n lines i item less) ∙ is)) in
          let there : line_at (front lines n) (number lines (suc i)) ≡ new_line lines (suc i) = stands-at lines n (suc i) (omega arith) (omega arith) in
          let parts = and_parts (is_only a item.lits) (leb t.code item.tag.code) passes in
          let one : length (line_at lines (suc i)).lits < 2 = (let e = ap (λ (l : Line). length l.lits) at in let o = ap (λ (ls : List Literal). length ls) (only-literal a item.lits parts.0) in omega arith) in
          let kind : is_delete (line_at (front lines n) (number lines (suc i))).rule ≡ false =
          subst (λ (l : Line). is_delete l.rule ≡ false) (sym there) (plain-renumbered lines (number lines) (line_at lines (suc i)).rule (plain-at lines plain i (omega arith))) in
          let stays = and_from (not (is_delete (line_at (front lines n) (number lines (suc i))).rule)) (not (is_deleted (front lines n) (number lines (suc i))))
          (not_from_false (is_delete (line_at (front lines n) (number lines (suc i))).rule) kind) (not_from_false (is_deleted (front lines n) (number lines (suc i))) (one-stays lines plain n (suc i) most one)) in
          let member = kept-there (front lines n) (number lines (suc i)) (omega arith) (within lines n (suc i) (omega arith) (omega arith)) stays in
          any-member (λ line. is_only a line.lits && leb t.code line.tag.code) (kept (front lines n)) (line_at (front lines n) (number lines (suc i))) member
          (subst (λ (l : Line). (is_only a l.lits && leb t.code l.tag.code) ≡ true) (sym there) (subst (λ (l : Line). (is_only a l.lits && leb t.code l.tag.code) ≡ true) (sym at) passes))

  named : (rule : Rule) (k : ℕ) → Contains (cited rule) k → list_any (λ m. eqb m k) (cited rule) ≡ true
  named rule k m = any-member (λ m. eqb m k) (cited rule) k m (eq-eqb k k refl)

  serves : (n : ℕ) → n < length lines → (t : Tag) (k : ℕ) → Contains (cited (line_at lines (suc n)).rule) k → MayBeCited (take n lines) t k → Serves (take n lines) (front lines n) k (number lines k)
  serves n small t k m may =
      let low = may.low in
      let high = may.high in
      let count = length-take n lines in
      let there : line_at (front lines n) (number lines k) ≡ new_line lines k = stands-at lines n k low (omega arith) in
      let before : line_at (take n lines) k ≡ line_at lines k = get_or-take n lines (k - 1) no_line (omega arith) in
      record {
        low = omega arith;
        high = within lines n k low (omega arith);
        stays = not-before lines plain n k small (named (line_at lines (suc n)).rule k m);
        tag = ap (λ (l : Line). l.tag.code) there ∙ ap (λ (l : Line). l.tag.code) (sym before);
        lits = ap (λ (l : Line). l.lits) there ∙ ap (λ (l : Line). l.lits) (sym before);
      }

  line-good : (n : ℕ) → n < length lines → line_fault instance (take n lines) (line_at lines (suc n)) ≡ None → line_fault instance (front lines n) (new_line lines (suc n)) ≡ None
  line-good n small clean =
      line-clean instance (take n lines) (front lines n) (number lines) (line_at lines (suc n)) (λ k m may. serves n small (line_at lines (suc n)).tag k m may) (marks n (omega arith))
      (formed (suc n - 1) no_line (omega arith)) clean

  abbrev grown : ℕ → List Line
  grown n = front lines n ++ new_line lines (suc n) ∷ []

  number-good : (n : ℕ) → n < length lines → (k : ℕ) → Contains (ended lines (suc n)) k → delete_fault (grown n) (number lines k) ≡ None
  number-good n small k m =
      let passed = from-filter (is_last_cite lines (suc n)) (range_with_len 0 (suc n)) k m in
      let below = from-range (suc n) k passed.0 in
      let parts = and_parts (ltb 0 k && leb 2 (length (line_at lines k).lits)) (cites (line_at lines (suc n)) k && not (is_cited_behind lines (suc n) k)) passed.1 in
      let some = ltb-true 0 k (and_parts (ltb 0 k) (leb 2 (length (line_at lines k).lits)) parts.0).0 in
      let cite = (and_parts (cites (line_at lines (suc n)) k) (not (is_cited_behind lines (suc n) k)) parts.1).0 in
      let inside = within lines n k some (omega arith) in
      let longer = length_push (front lines n) (new_line lines (suc n)) in
      both-none (cause_unless (ltb 0 (number lines k) && leb (number lines k) (length (grown n))) DeleteNotEarlier) (cause_unless (not (is_deleted (grown n) (number lines k))) DeletedTwice)
      (passes-none _ DeleteNotEarlier (and_from (ltb 0 (number lines k)) (leb (number lines k) (length (grown n))) (lt-ltb 0 (number lines k) (omega arith)) (le-leb (number lines k) (length (grown n)) (omega arith))))
      (passes-none _ DeletedTwice (not_from_false (is_deleted (grown n) (number lines k))
      (deletes-none lines (front lines n) (new_line lines (suc n)) (number lines k) (plain-renumbered lines (number lines) (line_at lines (suc n)).rule (plain-at lines plain n small))
      ∙ not-before lines plain n k small cite)))

  delete-good : (n : ℕ) → n < length lines → line_fault instance (grown n) (delete_line (map (number lines) (ended lines (suc n)))) ≡ None
  unfolding line_fault
  delete-good n small =
      both-none (first_of (delete_fault (grown n)) (map (number lines) (ended lines (suc n)))) None
      (none-first_of (delete_fault (grown n)) (map (number lines) (ended lines (suc n))) (All-from_members (λ m. delete_fault (grown n) m ≡ None) (map (number lines) (ended lines (suc n)))
      (λ y m. let found = from-map (number lines) (ended lines (suc n)) y m in subst (λ y. delete_fault (grown n) y ≡ None) found.2 (number-good n small found.0 found.1)))) refl

  behind-good : (n : ℕ) → n < length lines → AreGood instance (grown n) → AreGood instance (grown n ++ delete_behind lines (suc n))
  behind-good n small before = by_empty (is_empty (ended lines (suc n)))
    where
      by_empty : (b : Bool) → AreGood instance (grown n ++ cond b [] (delete_line (map (number lines) (ended lines (suc n))) ∷ []))
      by_empty true = subst (AreGood instance) (sym (append-nil (grown n))) before
      by_empty false = good-more instance (grown n) (delete_line (map (number lines) (ended lines (suc n)))) before (delete-good n small)

  fronts-good : AreGood instance lines → (n : ℕ) → n ≤ length lines → AreGood instance (front lines n)
  fronts-good good zero most = λ k small. absurd (omega arith)
  fronts-good good (suc n) most =
      subst (AreGood instance) (append_assoc (front lines n) (new_line lines (suc n) ∷ []) (delete_behind lines (suc n)))
      (behind-good n (omega arith) (good-more instance (front lines n) (new_line lines (suc n)) (fronts-good good n (omega arith)) (line-good n (omega arith) clean)))
    where
      clean : line_fault instance (take n lines) (line_at lines (suc n)) ≡ None
      clean = subst (λ m. line_fault instance (take n lines) (line_at lines m) ≡ None) (let s : n + 1 ≡ suc n = omega arith in s)
          (mapped-none (rejected_at (n + 1)) (line_fault instance (take n lines) (line_at lines (n + 1))) (good n (omega arith)))

  pub compacted-good : AreGood instance lines → AreGood instance (compacted lines)
  unfolding compacted
  compacted-good good = fronts-good good (length lines) (omega arith)
