-- Without the Delete lines that were put in, lines are as before.
use Rattle.std.proofs.Common.{◌≡◌, ℕ, zero, suc, ◌+◌, ◌-◌, ◌<◌, ◌≤◌, Bool, true, false, List, [], ◌∷◌, ◌++◌, length, map, filter, take, count_by, get_or, refl, ap, sym, subst, ◌∙◌, inl, inr, arith, All, Contains, eqb, cond}
use Rattle.std.proofs.lemmas.Bool.{cases_lt, eqb-true, not_from_false}
use Rattle.std.proofs.lemmas.List.{append-nil, append_assoc, length_push, map-append, take-append-le, take_all, take_more}
use Rattle.std.proofs.lemmas.List.Sums.{length-filter}
use Rattle.std.proofs.lemmas.List.Elements.{All-contains, filter-append}
use Rattle.fapp_model.specs.declared.items.Items.{Items}
use Rattle.fapp_model.specs.declared.literal.Literal.{Literal}
use Rattle.fapp_model.specs.declared.tag.Tag.{Tag}
use Rattle.fapp_model.proofs.Members.{at_front, behind}
use Rattle.cert_lines.specs.declared.answer.Child.{Child}
use Rattle.cert_lines.specs.declared.answer.Line.{Line}
use Rattle.cert_lines.specs.declared.answer.Rule.{Rule}
use Rattle.cert_lines.specs.declared.answer.Rule.TheVariants.{Branch, Count, Delete}
use Rattle.cert_lines.specs.acceptance.Deleted.{is_delete}
use Rattle.cert_lines.specs.acceptance.Excluded.{line_at, no_line}
use Rattle.cert_lines.specs.Renumbering.{cited, renumbered_child, renumbered_rule}
use Rattle.cert_lines.specs.Stripping.{bare_rule, stays, stripped, stripped_line, stripped_number}
use Rattle.accept_laws.specs.Compacting.{IsCompactable, compacted, compacted_at, compacted_number, compacted_to, delete_behind, delete_line, ended, is_empty}
use Rattle.accept_laws.proofs.Compacting.{new_line, number-last, plain-at, plain-renumbered}
use Rattle.cert_lines.proofs.Deleting.{IsPlain}

-- ---- numbers there and back

map-back : {X : Type 0} (f : X → X) (xs : List X) → ((x : X) → Contains xs x → f x ≡ x) → map f xs ≡ xs
map-back f [] h = refl
map-back f (x ∷ xs) h = rw (h x (at_front x xs)) (ap (λ ys. x ∷ ys) (map-back f xs (λ y m. h y (behind x xs y m))))

map-twice : {X : Type 0} (f g : X → X) (xs : List X) → map f (map g xs) ≡ map (λ x. f (g x)) xs
map-twice f g [] = refl
map-twice f g (x ∷ xs) = ap (λ ys. f (g x) ∷ ys) (map-twice f g xs)

module _ (f g : ℕ → ℕ) where
  child-back : (children : List Child) → ((n : ℕ) → Contains (map (λ (c : Child). c.cite) children) n → g (f n) ≡ n) → map (renumbered_child g) (map (renumbered_child f) children) ≡ children
  child-back [] h = refl
  child-back (c ∷ children) h =
      rw (h c.cite (at_front c.cite (map (λ (c : Child). c.cite) children))) (ap (λ cs. c ∷ cs) (child-back children (λ n m. h n (behind c.cite (map (λ (c : Child). c.cite) children) n m))))

  rule-back : (rule : Rule) → is_delete rule ≡ false → ((n : ℕ) → Contains (cited rule) n → g (f n) ≡ n) → renumbered_rule g (renumbered_rule f rule) ≡ rule
  rule-back (Count cites) plain h = ap Count (map-twice g f cites ∙ map-back (λ n. g (f n)) cites h)
  rule-back (Branch path children) plain h = ap (Branch path) (child-back children h)
  rule-back (Delete cites) plain h = absurd (cc)

  bare-back : (rule : Rule) → is_delete rule ≡ false → cited rule ≡ [] → bare_rule (renumbered_rule f rule) ≡ rule
  bare-back (Count []) plain e = refl
  bare-back (Count (n ∷ cites)) plain e = absurd (cc)
  bare-back (Branch path []) plain e = refl
  bare-back (Branch path (c ∷ children)) plain e = absurd (cc)
  bare-back (Delete cites) plain e = absurd (cc)

abbrev line_of : Tag → Items Literal → Rule → Line
line_of t l r = record { tag = t; lits = l; rule = r }

with-rule : (t : Tag) (l : Items Literal) (r s : Rule) → r ≡ s → line_of t l r ≡ line_of t l s
with-rule t l r s e = ap (line_of t l) e

module _ (lines : List Line) (plain : All IsPlain lines) where
  abbrev all : List Line
  all = compacted_to lines (length lines)

  -- the lines of the first n that stay
  none-behind : (n : ℕ) → filter stays (delete_behind lines n) ≡ []
  none-behind n = by_empty (is_empty (ended lines n))
    where
      by_empty : (b : Bool) → filter stays (cond b [] (delete_line (map (compacted_number lines) (ended lines n)) ∷ [])) ≡ []
      by_empty true = refl
      by_empty false = refl

  stays-new : (n : ℕ) → n < length lines → stays (new_line lines (suc n)) ≡ true
  stays-new n small = not_from_false _ (plain-renumbered lines (compacted_number lines) (line_at lines (suc n)).rule (plain-at lines plain n small))

  stays-at : (n : ℕ) → n < length lines → filter stays (compacted_at lines (suc n)) ≡ new_line lines (suc n) ∷ []
  stays-at n small = rw (stays-new n small) (ap (λ ls. new_line lines (suc n) ∷ ls) (none-behind (suc n)))

  length-stays : (n : ℕ) → n ≤ length lines → length (filter stays (compacted_to lines n)) ≡ n
  length-stays zero most = refl
  length-stays (suc n) most =
      ap length (filter-append stays (compacted_to lines n) (compacted_at lines (suc n)) ∙ ap (λ ls. filter stays (compacted_to lines n) ++ ls) (stays-at n (omega arith)))
      ∙ (let p = length_push (filter stays (compacted_to lines n)) (new_line lines (suc n)) in let b = length-stays n (omega arith) in omega arith)

  -- the first lines are a front of all
  front-of : (n m : ℕ) → n ≤ m → (more : List Line) × (compacted_to lines m ≡ compacted_to lines n ++ more)
  front-of n zero most = ([], subst (λ k. compacted_to lines 0 ≡ compacted_to lines k ++ []) (let e : 0 ≡ n = omega arith in e) refl)
  front-of n (suc m) most = elim (cases_lt m n) [
    | inl over ↦ subst (λ k. (more : List Line) × (compacted_to lines (suc m) ≡ compacted_to lines k ++ more)) (let e : suc m ≡ n = omega arith in e) ([], sym (append-nil (compacted_to lines (suc m))))
    | inr within ↦ (let r = front-of n m within in (r.0 ++ compacted_at lines (suc m), ap (λ ls. ls ++ compacted_at lines (suc m)) r.1 ∙ append_assoc (compacted_to lines n) r.0 (compacted_at lines (suc m))))
  ]

  -- a line's number comes back
  number-back : (n : ℕ) → n < length lines → stripped_number all (compacted_number lines (suc n)) ≡ suc n
  number-back n small =
      let r = front-of (suc n) (length lines) (omega arith) in
      let grown = compacted_to lines n ++ new_line lines (suc n) ∷ [] in
      let whole : all ≡ grown ++ (delete_behind lines (suc n) ++ r.0) =
      r.1 ∙ (ap (λ ls. ls ++ r.0) (sym (append_assoc (compacted_to lines n) (new_line lines (suc n) ∷ []) (delete_behind lines (suc n)))) ∙ append_assoc grown (delete_behind lines (suc n)) r.0) in
      let count : compacted_number lines (suc n) ≡ length grown = number-last lines n ∙ sym (length_push (compacted_to lines n) (new_line lines (suc n))) in
      let cut : take (compacted_number lines (suc n)) all ≡ grown =
      ap (λ m. take m all) count ∙ (ap (λ ls. take (length grown) ls) whole ∙ (take-append-le (length grown) grown (delete_behind lines (suc n) ++ r.0) (omega arith) ∙ take_all (length grown) grown (omega arith))) in
      ap (count_by stays) cut ∙ (sym (length-filter stays grown)
      ∙ (ap length (filter-append stays (compacted_to lines n) (new_line lines (suc n) ∷ []) ∙ ap (λ ls. filter stays (compacted_to lines n) ++ ls) (one n small))
      ∙ (let p = length_push (filter stays (compacted_to lines n)) (new_line lines (suc n)) in let b = length-stays n (omega arith) in omega arith)))
    where
      one : (n : ℕ) → n < length lines → filter stays (new_line lines (suc n) ∷ []) ≡ new_line lines (suc n) ∷ []
      one n small = rw (stays-new n small) refl

  module _ (ready : (n : ℕ) → 0 < n → n ≤ length lines → IsCompactable lines n) where
    line-back : (n : ℕ) → n < length lines → stripped_line all (new_line lines (suc n)) ≡ line_at lines (suc n)
    line-back n small = by_zero (eqb line.tag.code 0) refl
      where
        line : Line
        line = line_at lines (suc n)

        kind : is_delete line.rule ≡ false
        kind = plain-at lines plain n small

        back : (k : ℕ) → Contains (cited line.rule) k → stripped_number all (compacted_number lines k) ≡ k
        back k m =
            let h = All-contains (λ k. (0 < k) × (k < suc n)) (cited line.rule) k (ready (suc n) (omega arith) (omega arith)).earlier m in
            let low = h.0 in
            let high = h.1 in
            let same : suc (k - 1) ≡ k = omega arith in
            subst (λ j. stripped_number all (compacted_number lines j) ≡ j) same (number-back (k - 1) (omega arith))

        by_zero : (b : Bool) → eqb line.tag.code 0 ≡ b →
            (let l : Line = cond b (record { tag = line.tag; lits = line.lits; rule = bare_rule (renumbered_rule (compacted_number lines) line.rule) })
            (record { tag = line.tag; lits = line.lits; rule = renumbered_rule (stripped_number all) (renumbered_rule (compacted_number lines) line.rule) }) in l) ≡ line
        by_zero true z = with-rule line.tag line.lits (bare_rule (renumbered_rule (compacted_number lines) line.rule)) line.rule
            (bare-back (compacted_number lines) (compacted_number lines) line.rule kind ((ready (suc n) (omega arith) (omega arith)).bare (eqb-true line.tag.code 0 z)))
        by_zero false z = with-rule line.tag line.lits (renumbered_rule (stripped_number all) (renumbered_rule (compacted_number lines) line.rule)) line.rule
            (rule-back (compacted_number lines) (stripped_number all) line.rule kind back)

    fronts-back : (n : ℕ) → n ≤ length lines → map (stripped_line all) (filter stays (compacted_to lines n)) ≡ take n lines
    fronts-back zero most = refl
    fronts-back (suc n) most =
        ap (map (stripped_line all)) (filter-append stays (compacted_to lines n) (compacted_at lines (suc n)) ∙ ap (λ ls. filter stays (compacted_to lines n) ++ ls) (stays-at n (omega arith)))
        ∙ (map-append (stripped_line all) (filter stays (compacted_to lines n)) (new_line lines (suc n) ∷ [])
        ∙ (ap (λ ls. ls ++ stripped_line all (new_line lines (suc n)) ∷ []) (fronts-back n (omega arith))
        ∙ (ap (λ l. take n lines ++ l ∷ []) (line-back n (omega arith) ∙ ap (λ m. get_or lines m no_line) (let e : suc n - 1 ≡ n = omega arith in e))
        ∙ (sym (take_more lines n no_line (omega arith)) ∙ ap (λ m. take m lines) (let e : n + 1 ≡ suc n = omega arith in e)))))

pub stripped-again : (lines : List Line) → All IsPlain lines → ((n : ℕ) → 0 < n → n ≤ length lines → IsCompactable lines n) → stripped (compacted lines) ≡ lines
unfolding stripped compacted
stripped-again lines plain ready =
    fronts-back lines plain ready (length lines) (omega arith) ∙ take_all (length lines) lines (omega arith)
