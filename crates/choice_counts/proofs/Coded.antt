-- Coded sums: one number for a pair.
use Rattle.std.proofs.Common.{◌≡◌, ℕ, ◌+◌, ◌*◌, ◌<◌, ◌≤◌, Bool, true, false, cond, List, [], ◌∷◌, get_or, refl, ◌∙◌, inl, inr, arith, sum_by}
use Rattle.std.proofs.lemmas.Bool.{cases_order}
use Rattle.std.proofs.lemmas.List.Sums.{sum_by-cons}
use Rattle.fapp_model.specs.declared.instance.Instance.{Instance}
use Rattle.fapp_model.specs.declared.limits.TheConstants.{S_SPAN}
use Rattle.fapp_model.specs.declared.literal.Literal.{Literal}
use Rattle.fapp_model.specs.search.Clashes.{joins}
use Rattle.fapp_model.specs.search.Pairs.{Pair, IsPairAtMost}
use Rattle.fapp_model.specs.search.Partials.{choice_of}
use Rattle.fapp_model.specs.search.Weights.{added, added_pair, bad_before, bad_further, between, inside}
use Rattle.fapp_model.proofs.Sums.{sum_by-same-members}
use Rattle.fapp_tables.specs.Measures.{both_between, coded_part, pair_code}

abbrev pub code : ℕ → ℕ → ℕ
code v s = v * S_SPAN + s

pub sum_by-code : {X : Type 0} (f g : X → ℕ) (xs : List X) → sum_by (λ x. code (f x) (g x)) xs ≡ code (sum_by f xs) (sum_by g xs)
sum_by-code f g [] = omega arith
sum_by-code f g (x ∷ xs) = omega (arith, sum_by-code f g xs, sum_by-cons f x xs, sum_by-cons g x xs, sum_by-cons (λ y. code (f y) (g y)) x xs)

same_sum : {X : Type 0} (f g : X → ℕ) → ((x : X) → f x ≡ g x) → (xs : List X) → sum_by f xs ≡ sum_by g xs
same_sum f g each xs = sum_by-same-members f g xs (λ k d _. each (get_or xs k d))

module _ (instance : Instance) (level : ℕ) where
  code_cond : (t : Bool) (v s : ℕ) → cond t (code v s) 0 ≡ code (cond t v 0) (cond t s 0)
  code_cond true v s = refl
  code_cond false v s = omega arith

  between_code : (a b : Literal) → between instance (coded_part level) a b ≡ code (between instance (bad_before level) a b) (between instance (bad_further level) a b)
  between_code a b =
      same_sum (λ r. cond (joins a.path b.path r) (coded_part level r (choice_of instance a) (choice_of instance b)) 0)
      (λ r. code (cond (joins a.path b.path r) (bad_before level r (choice_of instance a) (choice_of instance b)) 0) (cond (joins a.path b.path r) (bad_further level r (choice_of instance a) (choice_of instance b)) 0))
      (λ r. code_cond (joins a.path b.path r) (bad_before level r (choice_of instance a) (choice_of instance b)) (bad_further level r (choice_of instance a) (choice_of instance b))) instance.records
      ∙ sum_by-code (λ r. cond (joins a.path b.path r) (bad_before level r (choice_of instance a) (choice_of instance b)) 0) (λ r. cond (joins a.path b.path r) (bad_further level r (choice_of instance a) (choice_of instance b)) 0) instance.records

  both_code : (a b : Literal) → both_between instance (coded_part level) a b ≡ code (both_between instance (bad_before level) a b) (both_between instance (bad_further level) a b)
  both_code a b = omega (arith, between_code a b, between_code b a)

  -- what a choice adds, as one number
  pub added_code : (literals : List Literal) (a : Literal) → added instance (coded_part level) literals a ≡ pair_code (added_pair instance level literals a)
  added_code literals a =
      same_sum (both_between instance (coded_part level) a) (λ b. code (both_between instance (bad_before level) a b) (both_between instance (bad_further level) a b)) (both_code a) literals
      ∙ sum_by-code (both_between instance (bad_before level) a) (both_between instance (bad_further level) a) literals

  pub inside_code : (literals : List Literal) → inside instance (coded_part level) literals ≡ code (inside instance (bad_before level) literals) (inside instance (bad_further level) literals)
  inside_code literals =
      same_sum (λ a. sum_by (λ b. between instance (coded_part level) a b) literals) (λ a. code (sum_by (λ b. between instance (bad_before level) a b) literals) (sum_by (λ b. between instance (bad_further level) a b) literals))
      (λ a. same_sum (λ b. between instance (coded_part level) a b) (λ b. code (between instance (bad_before level) a b) (between instance (bad_further level) a b)) (between_code a) literals
      ∙ sum_by-code (λ b. between instance (bad_before level) a b) (λ b. between instance (bad_further level) a b) literals) literals
      ∙ sum_by-code (λ a. sum_by (λ b. between instance (bad_before level) a b) literals) (λ a. sum_by (λ b. between instance (bad_further level) a b) literals) literals

-- pairs are ordered as their codes, where their second parts are below the span
pub at_most-code : (p q : Pair) → p.s < S_SPAN → q.s < S_SPAN → IsPairAtMost p q → pair_code p ≤ pair_code q
at_most-code p q sp sq (inl less) = omega arith
at_most-code p q sp sq (inr (same, below)) = omega (arith, same, below)

pub code-at_most : (p q : Pair) → p.s < S_SPAN → q.s < S_SPAN → pair_code p ≤ pair_code q → IsPairAtMost p q
code-at_most p q sp sq h = elim (cases_order p.v q.v) [
  | inl same ↦ inr (same, omega arith)
  | inr (inl less) ↦ inl less
  | inr (inr more) ↦ absurd (omega arith)
]
