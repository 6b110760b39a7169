-- The table of the last lines that cite others.
use Rattle.std.proofs.Common.{◌≡◌, ℕ, suc, ◌+◌, ◌-◌, ◌<◌, ◌≤◌, Bool, true, false, ◌||◌, List, [], ◌∷◌, ◌++◌, length, replicate, map, take, slice_set, get_or, refl, ap, sym, subst, ◌∙◌, arith, All, eqb, cond}
use Rattle.std.specs.List.{list_any}
use Rattle.std.proofs.lemmas.Bool.{eqb-false, eqb-true}
use Rattle.std.proofs.lemmas.List.{get_or-replicate, get_or-set_other, get_or-set_same, get_or_default, length-replicate, length-set, take-append-le, take_all}
use Rattle.std.proofs.lemmas.List.Elements.{All-contains, All-head, All-tail, All-weaker}
use Rattle.fapp_model.proofs.Members.{All-from_members, in-map}
use Rattle.cert_lines.specs.declared.answer.Child.{Child}
use Rattle.cert_lines.specs.declared.answer.Line.{Line}
use Rattle.cert_lines.specs.Renumbering.{cited}
use Rattle.cert_lines.specs.acceptance.Excluded.{line_at, no_line}
use Rattle.accept_laws.specs.Compacting.{IsCompactable, cites}
use Rattle.cert_merge.specs.Compacting.{AreLast, last_cite, noted}

pub length-noted : (n : ℕ) (places last : List ℕ) → length (noted last n places) ≡ length last
length-noted n [] last = refl
length-noted n (p ∷ ps) last = length-noted n ps (slice_set last p n) ∙ length-set last p n

set-at : (last : List ℕ) (p n k : ℕ) → p < length last → get_or (slice_set last p n) k 0 ≡ cond (eqb p k) n (get_or last k 0)
set-at last p n k small = by_same (eqb p k) refl
  where
    by_same : (b : Bool) → eqb p k ≡ b → get_or (slice_set last p n) k 0 ≡ cond b n (get_or last k 0)
    by_same true e = subst (λ j. get_or (slice_set last p n) j 0 ≡ n) (eqb-true p k e) (get_or-set_same last p n 0 small)
    by_same false e = get_or-set_other last p k n 0 (λ same. eqb-false p k e (sym same))

noted-at : (n k : ℕ) (places last : List ℕ) → All (λ p. p < length last) places → get_or (noted last n places) k 0 ≡ cond (list_any (λ m. eqb m k) places) n (get_or last k 0)
noted-at n k [] last inside = refl
noted-at n k (p ∷ ps) last inside =
    noted-at n k ps (slice_set last p n) (All-weaker (λ p. p < length last) (λ q. q < length (slice_set last p n)) (λ q l. let e = length-set last p n in omega arith) ps (All-tail (λ p. p < length last) p ps inside))
    ∙ (ap (λ x. cond (list_any (λ m. eqb m k) ps) n x) (set-at last p n k (All-head (λ p. p < length last) p ps inside)) ∙ by_either (eqb p k) (list_any (λ m. eqb m k) ps))
  where
    by_either : (a b : Bool) → cond b n (cond a n (get_or last k 0)) ≡ cond (a || b) n (get_or last k 0)
    by_either true true = refl
    by_either true false = refl
    by_either false true = refl
    by_either false false = refl

pub children-inside : (most : ℕ) (children : List Child) → All (λ k. k < most) (map (λ (child : Child). child.cite) children) → All (λ (child : Child). child.cite < most) children
children-inside most children h = All-from_members (λ (child : Child). child.cite < most) children
    (λ child m. All-contains (λ k. k < most) (map (λ (c : Child). c.cite) children) child.cite h (in-map (λ (c : Child). c.cite) children child m))

-- a table that was lent whole and comes back
pub whole-back : (len : ℕ) (back rest : List ℕ) → len ≡ length back → take len (back ++ rest) ≡ back
whole-back len back rest e = take-append-le len back rest (omega arith) ∙ take_all len back (omega arith)

module _ (lines : List Line) where
  pub line-here : (i : ℕ) (line : Line) → i < length lines → line ≡ get_or lines i line → line_at lines (i + 1) ≡ line
  line-here i line small is = ap (λ k. get_or lines k no_line) (let e : i + 1 - 1 ≡ i = omega arith in e) ∙ (get_or_default lines i no_line line small ∙ sym is)

  -- what a line cites comes before it
  pub cites-before : (i : ℕ) (line : Line) → i < length lines → line ≡ get_or lines i line → ((n : ℕ) → 0 < n → n ≤ length lines → IsCompactable lines n) → All (λ k. (0 < k) × (k < i + 1)) (cited line.rule)
  cites-before i line small is ready = subst (λ (l : Line). All (λ k. (0 < k) × (k < i + 1)) (cited l.rule)) (line-here i line small is) (ready (i + 1) (omega arith) (omega arith)).earlier

  pub cites-inside : (i : ℕ) (line : Line) (last : List ℕ) → i < length lines → line ≡ get_or lines i line → ((n : ℕ) → 0 < n → n ≤ length lines → IsCompactable lines n) → length last ≡ length lines + 1 → All (λ k. k < length last) (cited line.rule)
  cites-inside i line last small is ready long =
      All-weaker (λ k. (0 < k) × (k < i + 1)) (λ k. k < length last) (λ k h. let l = h.1 in omega arith) (cited line.rule) (cites-before i line small is ready)

  pub last-none : (last : List ℕ) → last ≡ replicate (length lines + 1) 0 → AreLast lines 0 last
  last-none last is = record {
    long = ap (λ (ns : List ℕ). length ns) is ∙ length-replicate {A = ℕ} (length lines + 1) 0;
    at = λ k most. ap (λ ns. get_or ns k 0) is ∙ get_or-replicate (length lines + 1) k 0 0 (omega arith);
  }

  pub last-more : (i : ℕ) (line : Line) (last next : List ℕ) → i < length lines → line ≡ get_or lines i line → ((n : ℕ) → 0 < n → n ≤ length lines → IsCompactable lines n) → AreLast lines i last →
      next ≡ noted last (i + 1) (cited line.rule) → AreLast lines (i + 1) next
  last-more i line last next small is ready was made = record {
    long = ap (λ (ns : List ℕ). length ns) made ∙ (length-noted (i + 1) (cited line.rule) last ∙ was.long);
    at = λ k most. ap (λ ns. get_or ns k 0) made ∙ (noted-at (i + 1) k (cited line.rule) last (cites-inside i line last small is ready was.long)
        ∙ (ap (λ x. cond (cites line k) (i + 1) x) (was.at k most) ∙ step k));
  }
    where
      one : suc i ≡ i + 1
      one = omega arith

      here : line_at lines (suc i) ≡ line
      here = ap (line_at lines) one ∙ line-here i line small is

      step : (k : ℕ) → cond (cites line k) (i + 1) (last_cite lines i k) ≡ last_cite lines (i + 1) k
      step k = subst (λ m. cond (cites line k) m (last_cite lines i k) ≡ last_cite lines m k) one (ap (λ (l : Line). cond (cites l k) (suc i) (last_cite lines i k)) (sym here))
