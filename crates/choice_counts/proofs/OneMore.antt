-- One literal more, in all that is counted.
use Rattle.std.proofs.Common.{◌≡◌, ℕ, ◌+◌, ◌*◌, ◌<◌, ◌≤◌, Bool, List, [], ◌∷◌, ◌++◌, get_or, refl, sym, ap, ◌∙◌, subst, arith, sum_by, All}
use Rattle.std.proofs.lemmas.List.Sums.{sum_by-cons, sum_by_push}
use Rattle.fapp_model.specs.declared.choice.Choice.{Choice}
use Rattle.fapp_model.specs.declared.instance.Instance.{Instance}
use Rattle.fapp_model.specs.declared.literal.Literal.{Literal}
use Rattle.fapp_model.specs.declared.record.Record.{Record}
use Rattle.fapp_model.specs.Instances.{IsInstance}
use Rattle.fapp_model.specs.search.Weights.{added, between, inside}
use Rattle.fapp_model.proofs.Sums.{sum_by-add, sum_by-same-members}
use Rattle.fapp_tables.specs.Measures.{both_between, coded_part}
use Rattle.choice_counts.specs.declared.rows.TheConstants.{HARD}
use Rattle.choice_counts.specs.Counts.{clash_pairs, clash_part, hard_of, outside_part, outsiders, pair_tally, tally_of}
use Rattle.choice_counts.proofs.Clash.{clash_self, clash_turned, flag, itself_none}

-- a list of literals has one more than another, wherever it stands: each sum over it has one more number
abbrev pub IsOneMore : List Literal → List Literal → Literal → Type 0
IsOneMore less more now = (f : Literal → ℕ) → sum_by f more ≡ sum_by f less + f now

pub one_pushed : (literals : List Literal) (now : Literal) → IsOneMore literals (literals ++ now ∷ []) now
one_pushed literals now f = sum_by_push f literals now

module _ (instance : Instance) (less more : List Literal) (now : Literal) (one : IsOneMore less more now) where
  pub added_more : (measure : Record → Choice → Choice → ℕ) (a : Literal) → added instance measure more a ≡ added instance measure less a + both_between instance measure a now
  added_more measure a = one (both_between instance measure a)

  pub hard_more : (level : ℕ) (arc : Literal → Bool) (a : Literal) → hard_of instance level arc more a ≡ hard_of instance level arc less a + clash_part instance level a now
  hard_more level arc a = omega (arith, one (clash_part instance level a))

  pub tally_more : (level : ℕ) (arc : Literal → Bool) (a : Literal) → tally_of instance level arc more a ≡ tally_of instance level arc less a + pair_tally instance level a now
  tally_more level arc a = omega (arith, hard_more level arc a, added_more (coded_part level) a)

  pub outside_more : (arc : Literal → Bool) → outsiders arc more ≡ outsiders arc less + outside_part arc now
  outside_more arc = one (outside_part arc)

  -- over pairs of literals, from both sides
  pairs_more : (f : Literal → Literal → ℕ) → f now now ≡ 0 →
      sum_by (λ a. sum_by (f a) more) more ≡ sum_by (λ a. sum_by (f a) less) less + sum_by (λ a. f now a + f a now) less
  pairs_more f itself =
      let wide : Literal → ℕ = λ a. sum_by (f a) more in
      let narrow : Literal → ℕ = λ a. sum_by (f a) less in
      let outer : sum_by wide more ≡ sum_by wide less + wide now = one wide in
      let inner : sum_by wide less ≡ sum_by (λ a. narrow a + f a now) less = sum_by-same-members wide (λ a. narrow a + f a now) less (λ k d _. one (f (get_or less k d))) in
      let parts = sum_by-add narrow (λ a. f a now) less in
      let sides = sum_by-add (f now) (λ a. f a now) less in
      omega (arith, outer, inner, parts, sides, one (f now))

  module _ (valid : IsInstance instance) where
    pub inside_more : (measure : Record → Choice → Choice → ℕ) → inside instance measure more ≡ inside instance measure less + added instance measure less now
    inside_more measure = pairs_more (between instance measure) (itself_none instance 0 valid measure now now refl)

    pub clashes_more : (level : ℕ) → clash_pairs instance level more ≡ clash_pairs instance level less + sum_by (clash_part instance level now) less * 2
    clashes_more level =
        let whole = pairs_more (clash_part instance level) (ap flag (clash_self instance level valid now now refl)) in
        let sides = sum_by-add (clash_part instance level now) (λ a. clash_part instance level a now) less in
        let turned = sum_by-same-members (λ a. clash_part instance level a now) (clash_part instance level now) less (λ k d _. clash_turned instance level (get_or less k d) now) in
        omega (arith, whole, sides, turned)

-- a choice's tally is that of the arcs alone and what each literal counts in it
pub tally_sum : (instance : Instance) (level : ℕ) (arc : Literal → Bool) (literals : List Literal) (a : Literal) →
    tally_of instance level arc literals a ≡ tally_of instance level arc [] a + sum_by (pair_tally instance level a) literals
tally_sum instance level arc literals a =
    let parts = sum_by-add (λ b. clash_part instance level a b * HARD) (both_between instance (coded_part level) a) literals in
    omega (arith, parts, scaled (clash_part instance level a) literals)
  where
    scaled : (f : Literal → ℕ) (xs : List Literal) → sum_by (λ b. f b * HARD) xs ≡ sum_by f xs * HARD
    scaled f [] = refl
    scaled f (x ∷ xs) = omega (arith, scaled f xs, sum_by-cons f x xs, sum_by-cons (λ b. f b * HARD) x xs)
