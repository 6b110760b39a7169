-- The first line that deletes a number says at each line whether it is deleted.
use Rattle.std.proofs.Common.{◌≡◌, ℕ, zero, suc, ◌+◌, ◌-◌, ◌<◌, ◌≤◌, Bool, true, false, not, ◌&&◌, List, [], ◌∷◌, length, take, get_or, refl, sym, ap, ◌∙◌, arith, eqb, ltb, leb}
use Rattle.std.specs.List.{list_any, position_or_len}
use Rattle.std.proofs.lemmas.Bool.{le-leb, lt-leb, lt-ltb, ltb-false, ltb-true}
use Rattle.std.proofs.lemmas.List.{take_all}
use Rattle.cert_lines.specs.declared.answer.Line.{Line}
use Rattle.cert_lines.specs.acceptance.Deleted.{deletes, is_delete, is_deleted, is_kept}
use Rattle.cert_check.specs.Marked.{AreDeleters, deleter_of}
use Rattle.cert_lines.specs.acceptance.Excluded.{line_at}

-- two comparisons that say the same
same-tests : (a b c d : ℕ) → (a < b → c < d) → (c < d → a < b) → ltb a b ≡ ltb c d
same-tests a b c d there back = by_both (ltb a b) (ltb c d) refl refl
  where
    by_both : (x y : Bool) → ltb a b ≡ x → ltb c d ≡ y → ltb a b ≡ ltb c d
    by_both true true e f = e ∙ sym f
    by_both false false e f = e ∙ sym f
    by_both true false e f = absurd (let l = there (ltb-true a b e) in let m = ltb-false c d f in omega arith)
    by_both false true e f = absurd (let l = back (ltb-true c d f) in let m = ltb-false a b e in omega arith)

none-below : (x : ℕ) → false ≡ ltb x 0
none-below x = by_bool (ltb x 0) refl
  where
    by_bool : (b : Bool) → ltb x 0 ≡ b → false ≡ b
    by_bool true e = absurd (let l = ltb-true x 0 e in omega arith)
    by_bool false e = refl

any-before : {X : Type 0} (p : X → Bool) (xs : List X) (n : ℕ) → n ≤ length xs → list_any p (take n xs) ≡ ltb (position_or_len p xs) n
any-before p xs zero small = none-below (position_or_len p xs)
any-before p [] (suc n) small = absurd (omega arith)
any-before p (x ∷ xs) (suc n) small = by_first (p x) refl (any-before p xs n (omega arith))
  where
    by_first : (b : Bool) → p x ≡ b → list_any p (take n xs) ≡ ltb (position_or_len p xs) n → list_any p (x ∷ take n xs) ≡ ltb (position_or_len p (x ∷ xs)) (suc n)
    by_first true e rest = rw e (sym (lt-ltb 0 (suc n) (omega arith)))
    by_first false e rest = rw e (rest ∙ same-tests (position_or_len p xs) n (1 + position_or_len p xs) (suc n) (λ l. omega arith) (λ l. omega arith))

-- a line is deleted by one of the first n where the first that deletes it is
pub deleted-before : (lines : List Line) (m n : ℕ) → n ≤ length lines → is_deleted (take n lines) m ≡ ltb (deleter_of lines m) n
unfolding deleter_of
deleted-before lines m n small = any-before (λ (line : Line). list_any (λ k. eqb k m) (deletes line.rule)) lines n small

-- the same by a table
pub deleted-by : (lines : List Line) (deleters : List ℕ) (m n : ℕ) → AreDeleters lines deleters → 0 < m → m ≤ length lines → n ≤ length lines → ltb (get_or deleters (m - 1) 0) n ≡ is_deleted (take n lines) m
deleted-by lines deleters m n are low high small =
    let own = are.each (m - 1) (omega arith) in
    let number : m - 1 + 1 ≡ m = omega arith in
    ap (λ k. ltb k n) (own ∙ ap (deleter_of lines) number) ∙ sym (deleted-before lines m n small)

at-least : (a b : ℕ) → leb a b ≡ not (ltb b a)
at-least a b = by_test (ltb b a) refl
  where
    by_test : (t : Bool) → ltb b a ≡ t → leb a b ≡ not t
    by_test true e = lt-leb a b (ltb-true b a e)
    by_test false e = le-leb a b (let m = ltb-false b a e in omega arith)

-- a line is kept where it is no Delete line and no line deletes it
pub kept-by : (lines : List Line) (deleters : List ℕ) (k : ℕ) → AreDeleters lines deleters → k < length lines → is_delete (line_at lines (k + 1)).rule ≡ false → leb (length lines) (get_or deleters k 0) ≡ is_kept lines (k + 1) (line_at lines (k + 1))
kept-by lines deleters k are small plain =
    let whole : take (length lines) lines ≡ lines = take_all (length lines) lines (omega arith) in
    let number : k + 1 - 1 ≡ k = omega arith in
    let deleted = deleted-by lines deleters (k + 1) (length lines) are (omega arith) (omega arith) (omega arith) in
    at-least (length lines) (get_or deleters k 0)
    ∙ ap (λ j. not (ltb (get_or deleters j 0) (length lines))) (sym number)
    ∙ ap not (deleted ∙ ap (λ ls. is_deleted ls (k + 1)) whole)
    ∙ ap (λ b. not b && not (is_deleted lines (k + 1))) (sym plain)
