-- The examples are instances.
use Rattle.std.proofs.Common.{◌≢◌, ℕ, zero, suc, ◌<◌, true, [], ◌∷◌, ℤ, pos, All, refl, inl, inr, arith}
use Rattle.std.specs.List.{AllPairs}
use Rattle.std.specs.List.Sorted.{IsStrictlyIncreasing}
use Rattle.std.proofs.lemmas.List.{get_or-replicate, get_or_past, length-replicate}
use Rattle.std.proofs.lemmas.List.Elements.{All-cons, All-nil, All-replicate}
use Rattle.std.proofs.lemmas.List.Kept.{AllPairs-cons}
use Rattle.fapp_model.specs.declared.instance.Path.{Path}
use Rattle.fapp_model.specs.declared.level.TheConstants.{LEVELS, MAX_LEVELS}
use Rattle.fapp_model.specs.declared.record.Record.TheVariants.{Pol, Same, Other}
use Rattle.fapp_model.specs.Levels.{levels_of}
use Rattle.fapp_model.specs.Instances.{AreDistances, IsInstance, IsNumber, IsPath, IsPolarization, IsRecord}
use Rattle.dead_laws.specs.ExampleInstances.{at_each_level, path_with, three_alike, tied_pair}
use Rattle.dead_laws.specs.ExampleLaws.{ExamplesAreValid}

all-two : {X : Type 0} (P : X → Type 0) (x y : X) → P x → P y → All P (x ∷ y ∷ [])
all-two P x y h k = All-cons P x (y ∷ []) h (All-cons P y [] k (All-nil P))

all-three : {X : Type 0} (P : X → Type 0) (x y z : X) → P x → P y → P z → All P (x ∷ y ∷ z ∷ [])
all-three P x y z h k l = All-cons P x (y ∷ z ∷ []) h (all-two P y z k l)

-- numbers that differ
abbrev Apart : Path → Path → Type 0
Apart p q = p.number ≢ q.number

one-apart : (p : Path) → AllPairs Apart (p ∷ [])
one-apart p i j d l m = absurd (omega arith)

two-apart : (p q : Path) → Apart p q → AllPairs Apart (p ∷ q ∷ [])
two-apart p q h = AllPairs-cons Apart p (q ∷ []) (All-cons (Apart p) q [] h (All-nil (Apart p))) (one-apart q)

three-apart : (p q r : Path) → Apart p q → Apart p r → Apart q r → AllPairs Apart (p ∷ q ∷ r ∷ [])
three-apart p q r h k l = AllPairs-cons Apart p (q ∷ r ∷ []) (all-two (Apart p) q r h k) (two-apart q r l)

one-ascends : (f : ℕ) → IsStrictlyIncreasing (f ∷ [])
one-ascends f k l = absurd (omega arith)

two-ascend : (f g : ℕ) → f < g → IsStrictlyIncreasing (f ∷ g ∷ [])
two-ascend f g h zero l = h
two-ascend f g h (suc k) l = absurd (omega arith)

-- the same distance at each level
even-distances : (d : ℕ) → IsNumber d → AreDistances LEVELS (at_each_level d)
even-distances d small = record {
  count = refl;
  numbers = All-replicate IsNumber MAX_LEVELS d small;
  falling = λ i j e l m. omega (arith, get_or-replicate MAX_LEVELS i d e (omega (arith, length-replicate MAX_LEVELS d)), get_or-replicate MAX_LEVELS j d e (omega (arith, length-replicate MAX_LEVELS d)));
  ended = λ level past. get_or_past (at_each_level d) level 0 (omega (arith, length-replicate MAX_LEVELS d));
}

record-valid : (paths : ℕ) (i j : ℕ) (d : ℕ) → i < paths → j < paths → i ≢ j → IsNumber d → IsRecord LEVELS paths (Same i j (at_each_level d))
record-valid paths i j d l m apart small = record { first = l; second = m; different = apart; numbers = even-distances d small }

three-path : (number : ℕ) → IsNumber number → IsPath (path_with number (10 ∷ 20 ∷ []) (pos 1))
three-path number small = record {
  number = small;
  some = omega arith;
  few = omega arith;
  numbers = All-cons IsNumber 10 (20 ∷ []) (omega arith) (All-cons IsNumber 20 [] (omega arith) (All-nil IsNumber));
  ascending = two-ascend 10 20 (omega arith);
  polarization = inr (inr refl);
}

tied-path : (number : ℕ) (polarization : ℤ) → IsNumber number → IsPolarization polarization → IsPath (path_with number (10 ∷ []) polarization)
tied-path number polarization small p = record {
  number = small;
  some = omega arith;
  few = omega arith;
  numbers = All-cons IsNumber 10 [] (omega arith) (All-nil IsNumber);
  ascending = one-ascends 10;
  polarization = p;
}

abbrev alike : ℕ → Path
alike number = path_with number (10 ∷ 20 ∷ []) (pos 1)

pub three-valid : IsInstance three_alike
unfolding three_alike levels_of
three-valid = record {
  paths = all-three IsPath (alike 1) (alike 2) (alike 3) (three-path 1 (omega arith)) (three-path 2 (omega arith)) (three-path 3 (omega arith));
  apart = three-apart (alike 1) (alike 2) (alike 3) (λ e. omega (arith, e)) (λ e. omega (arith, e)) (λ e. omega (arith, e));
  records = all-three (IsRecord LEVELS 3) (Same 0 1 (at_each_level 10)) (Same 0 2 (at_each_level 10)) (Same 1 2 (at_each_level 10))
      (record-valid 3 0 1 10 (omega arith) (omega arith) (λ e. omega (arith, e)) (omega arith))
      (record-valid 3 0 2 10 (omega arith) (omega arith) (λ e. omega (arith, e)) (omega arith))
      (record-valid 3 1 2 10 (omega arith) (omega arith) (λ e. omega (arith, e)) (omega arith));
  few_paths = omega arith;
  few_records = omega arith;
  few_choices = omega arith;
}

pub tied-valid : IsInstance tied_pair
unfolding tied_pair levels_of
tied-valid = record {
  paths = all-two IsPath (path_with 1 (10 ∷ []) (pos 1)) (path_with 2 (10 ∷ []) (pos 0))
      (tied-path 1 (pos 1) (omega arith) (inr (inr refl))) (tied-path 2 (pos 0) (omega arith) (inr (inl refl)));
  apart = two-apart (path_with 1 (10 ∷ []) (pos 1)) (path_with 2 (10 ∷ []) (pos 0)) (λ e. omega (arith, e));
  records = all-three (IsRecord LEVELS 2) (Same 0 1 (at_each_level 50)) (Other 0 1 (at_each_level 0)) (Pol 0 1 true)
      (record-valid 2 0 1 50 (omega arith) (omega arith) (λ e. omega (arith, e)) (omega arith))
      (record { first = omega arith; second = omega arith; different = λ e. omega (arith, e); numbers = even-distances 0 (omega arith) })
      (record { first = omega arith; second = omega arith; different = λ e. omega (arith, e); numbers = tt });
  few_paths = omega arith;
  few_records = omega arith;
  few_choices = omega arith;
}

pub examples-valid : ExamplesAreValid
examples-valid = record { tied_pair = tied-valid; three_alike = three-valid }
