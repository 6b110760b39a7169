-- Rows that are filled one by one.
use Rattle.std.proofs.Common.{◌≡◌, ℕ, zero, suc, ◌+◌, ◌<◌, Bool, true, false, ◌&&◌, cond, eqb, length, take, subst, arith, List, [], ◌∷◌, ◌++◌, get_or, filter, refl, ap, sym, ◌∙◌, zero-add}
use Rattle.std.specs.List.{range_with_len}
use Rattle.std.proofs.lemmas.List.Elements.{filter-append, filter_agree, filter_more}
use Rattle.std.proofs.lemmas.Bool.{eqb-true, eqb-false}
use Rattle.fapp_model.specs.declared.literal.Literal.{Literal}
use Rattle.fapp_model.specs.search.Partials.{literal}
use Rattle.cert_lines.specs.declared.answer.Line.{Line}
use Rattle.cert_lines.specs.acceptance.Excluded.{is_only}
use Rattle.cert_check.specs.Tables.{IsPushed}
use Rattle.cert_check.specs.Ones.{is_one_of, first_literal, choice_on, ones_by_path}
use Rattle.cert_check.specs.Marked.{marked_row, line_on, ones_of}
use Rattle.fapp_model.proofs.CostParts.{range_more}

pub filter_range : (p : ℕ → Bool) (n : ℕ) → filter p (range_with_len 0 (n + 1)) ≡ filter p (range_with_len 0 n) ++ cond (p n) (n ∷ []) []
filter_range p n = ap (filter p) (range_more 0 n) ∙ (filter-append p (range_with_len 0 n) ((0 + n) ∷ []) ∙ ap (λ k. filter p (range_with_len 0 n) ++ cond (p k) (k ∷ []) []) (zero-add n))

pub empty_push : (table : List (List ℕ)) → ((row : ℕ) → marked_row table row ≡ []) → (row : ℕ) → marked_row (table ++ [] ∷ []) row ≡ []
empty_push [] h zero = refl
empty_push [] h (suc row) = refl
empty_push (r ∷ table) h zero = h zero
empty_push (r ∷ table) h (suc row) = empty_push table (λ k. h (suc k)) row

nothing-more : (xs : List ℕ) → xs ++ [] ≡ xs
nothing-more [] = refl
nothing-more (x ∷ xs) = ap (λ ys. x ∷ ys) (nothing-more xs)

-- a pushed row, by a test
pub pushed-rows : (old new : List (List ℕ)) (row k : ℕ) → IsPushed old new row k → (path : ℕ) → marked_row new path ≡ marked_row old path ++ cond (eqb row path) (k ∷ []) []
pushed-rows old new row k h path = by_test (eqb row path) refl
  where
    by_test : (b : Bool) → eqb row path ≡ b → marked_row new path ≡ marked_row old path ++ cond b (k ∷ []) []
    by_test true e = subst (λ (p : ℕ). marked_row new p ≡ marked_row old p ++ k ∷ []) (eqb-true row path e) h.here
    by_test false e = h.there path (λ same. eqb-false row path e (sym same)) ∙ sym (nothing-more (marked_row old path))

pub same-row : (old new : List (List ℕ)) (path : ℕ) (b : Bool) (k : ℕ) → new ≡ old → b ≡ false → marked_row new path ≡ marked_row old path ++ cond b (k ∷ []) []
same-row old new path b k e h = ap (λ (t : List (List ℕ)). marked_row t path) e ∙ sym (ap (λ c. marked_row old path ++ cond c (k ∷ []) []) h ∙ nothing-more (marked_row old path))

pub one-of : (path : ℕ) (literals : List Literal) → length literals ≡ 1 → is_one_of path literals ≡ eqb (first_literal literals).path path
one-of path [] h = absurd (omega arith)
one-of path (b ∷ []) h = refl
one-of path (b ∷ c ∷ more) h = absurd (omega arith)

pub not-one : (path : ℕ) (literals : List Literal) → (length literals ≡ 1 → ⊥) → is_one_of path literals ≡ false
not-one path [] h = refl
not-one path (b ∷ []) h = absurd (h (omega arith))
not-one path (b ∷ c ∷ more) h = refl

filter-filter : (p q : ℕ → Bool) (xs : List ℕ) → filter p (filter q xs) ≡ filter (λ x. q x && p x) xs
filter-filter p q [] = refl
filter-filter p q (x ∷ xs) = by_test (q x) (filter-filter p q xs)
  where
    by_test : (b : Bool) → filter p (filter q xs) ≡ filter (λ y. q y && p y) xs → filter p (cond b (x ∷ filter q xs) (filter q xs)) ≡ cond (b && p x) (x ∷ filter (λ y. q y && p y) xs) (filter (λ y. q y && p y) xs)
    by_test true e = ap (λ ys. cond (p x) (x ∷ ys) ys) e
    by_test false e = e

only-one : (path index : ℕ) (literals : List Literal) → (is_one_of path literals && eqb (first_literal literals).choice index) ≡ is_only (literal path index) literals
only-one path index [] = refl
only-one path index (b ∷ []) = refl
only-one path index (b ∷ c ∷ more) = refl

-- the lines of one literal, of the row of its path
pub ones-by-choice : (lines : List Line) (path index : ℕ) → filter (λ k. eqb (choice_on lines k) index) (ones_by_path lines path) ≡ ones_of lines (literal path index)
unfolding ones_by_path ones_of
ones-by-choice lines path index =
    filter-filter (λ k. eqb (choice_on lines k) index) (λ k. is_one_of path (line_on lines k).lits) (range_with_len 0 (length lines))
    ∙ filter_agree (λ k. is_one_of path (line_on lines k).lits && eqb (choice_on lines k) index) (λ k. is_only (literal path index) (line_on lines k).lits) (λ k. only-one path index (line_on lines k).lits) (range_with_len 0 (length lines))

pub filter_more_at : (p : ℕ → Bool) (xs : List ℕ) (i : ℕ) → i < length xs → filter p (take (i + 1) xs) ≡ filter p (take i xs) ++ cond (p (get_or xs i 0)) (get_or xs i 0 ∷ []) []
filter_more_at p xs i small = filter_more p xs i 0 small
