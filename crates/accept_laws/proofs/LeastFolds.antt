-- The least pair, found one by one.
use Rattle.std.proofs.Common.{◌≡◌, ℕ, Bool, true, false, cond, List, [], ◌∷◌, ◌++◌, append_assoc, fold, refl, ap, sym, subst, inl, inr, arith, Contains, Option, Some, None}
use Rattle.std.proofs.lemmas.Bool.{both_ways}
use Rattle.std.proofs.lemmas.List.Elements.{Contains-append_left, Contains-push, Contains-push_cases}
use Rattle.fapp_model.specs.search.Pairs.{Pair, IsPairAtMost}
use Rattle.dead_laws.proofs.DeadLower.{IsPairAtMost-trans}
use Rattle.cert_lines.specs.acceptance.Judged.{is_pair_at_most, lesser}
use Rattle.accept_laws.proofs.PairTests.{pairs-at_most, not-pairs}
use Rattle.dead_laws.proofs.BestChoices.{NonePass}

pub record IsBest (test : ℕ → Bool) (pair : ℕ → Pair) (xs : List ℕ) (p : Pair) : Type 0 where
  pub item : ℕ
  pub member : Contains xs item
  pub passes : test item ≡ true
  pub reached : pair item ≡ p
  pub least : (y : ℕ) → Contains xs y → test y ≡ true → IsPairAtMost p (pair y)

abbrev pub IsLeastOf : (test : ℕ → Bool) (pair : ℕ → Pair) → List ℕ → Option Pair → Type 0
IsLeastOf test pair xs None = NonePass test xs
IsLeastOf test pair xs (Some p) = IsBest test pair xs p

same-at_most : (p : Pair) → IsPairAtMost p p
same-at_most p = inr (refl, omega arith)

abbrev pub step : (test : ℕ → Bool) (pair : ℕ → Pair) → Option Pair → ℕ → Option Pair
step test pair found x = cond (test x) (Some (lesser found (pair x))) found

module _ (test : ℕ → Bool) (pair : ℕ → Pair) where
  skip : (xs : List ℕ) (x : ℕ) (o : Option Pair) → test x ≡ false → IsLeastOf test pair xs o → IsLeastOf test pair (xs ++ x ∷ []) o
  skip xs x None off none = record { fails = λ y c. elim (Contains-push_cases xs x y c) [ inl r ↦ none.fails y r | inr e ↦ subst (λ z. test z ≡ false) e off ] }
  skip xs x (Some p) off best = record {
    item = best.item;
    member = Contains-append_left xs (x ∷ []) best.item best.member;
    passes = best.passes;
    reached = best.reached;
    least = λ y c pass. elim (Contains-push_cases xs x y c) [ inl r ↦ best.least y r pass | inr e ↦ absurd (both_ways (test y) (subst (λ z. test z ≡ false) e off) pass) ];
  }

  fresh : (xs : List ℕ) (x : ℕ) → test x ≡ true → ((y : ℕ) → Contains xs y → test y ≡ true → IsPairAtMost (pair x) (pair y)) → IsBest test pair (xs ++ x ∷ []) (pair x)
  fresh xs x on least = record {
    item = x;
    member = Contains-push xs x;
    passes = on;
    reached = refl;
    least = λ y c pass. elim (Contains-push_cases xs x y c) [ inl r ↦ least y r pass | inr e ↦ subst (λ z. IsPairAtMost (pair x) (pair z)) e (same-at_most (pair x)) ];
  }

  by_test : (xs : List ℕ) (x : ℕ) (p : Pair) → test x ≡ true → IsBest test pair xs p → (b : Bool) → is_pair_at_most p (pair x) ≡ b → IsBest test pair (xs ++ x ∷ []) (cond b p (pair x))
  by_test xs x p on best true e = record {
    item = best.item;
    member = Contains-append_left xs (x ∷ []) best.item best.member;
    passes = best.passes;
    reached = best.reached;
    least = λ y c pass. elim (Contains-push_cases xs x y c) [ inl r ↦ best.least y r pass | inr same ↦ subst (λ z. IsPairAtMost p (pair z)) same (pairs-at_most p (pair x) e) ];
  }
  by_test xs x p on best false e = fresh xs x on (λ y c pass. IsPairAtMost-trans (pair x) p (pair y) (not-pairs p (pair x) e) (best.least y c pass))

  take : (xs : List ℕ) (x : ℕ) (o : Option Pair) → test x ≡ true → IsLeastOf test pair xs o → IsBest test pair (xs ++ x ∷ []) (lesser o (pair x))
  take xs x None on none = fresh xs x on (λ y c pass. absurd (both_ways (test y) (none.fails y c) pass))
  take xs x (Some p) on best = by_test xs x p on best (is_pair_at_most p (pair x)) refl

  stepped : (xs : List ℕ) (x : ℕ) (o : Option Pair) → IsLeastOf test pair xs o → (b : Bool) → test x ≡ b → IsLeastOf test pair (xs ++ x ∷ []) (cond b (Some (lesser o (pair x))) o)
  stepped xs x o h true e = take xs x o e h
  stepped xs x o h false e = skip xs x o e h

  pub folded : (seen xs : List ℕ) (o : Option Pair) → IsLeastOf test pair seen o → IsLeastOf test pair (seen ++ xs) (fold (step test pair) o xs)
  folded seen [] o h = subst (λ zs. IsLeastOf test pair zs o) (sym (append-nil seen)) h
    where
      append-nil : (zs : List ℕ) → zs ++ [] ≡ zs
      append-nil [] = refl
      append-nil (z ∷ zs) = ap (λ r. z ∷ r) (append-nil zs)
  folded seen (x ∷ xs) o h =
      subst (λ zs. IsLeastOf test pair zs (fold (step test pair) (step test pair o x) xs)) (append_assoc seen (x ∷ []) xs)
      (folded (seen ++ x ∷ []) xs (step test pair o x) (stepped seen x o h (test x) refl))

  pub fold-least : (xs : List ℕ) → IsLeastOf test pair xs (fold (step test pair) None xs)
  fold-least xs = folded [] xs None (record { fails = λ y c. absurd (omega (arith, c.1)) })
