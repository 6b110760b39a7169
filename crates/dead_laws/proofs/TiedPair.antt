-- The arcs of two paths whose equal polarizations are demanded, although they are too close.
use Rattle.std.proofs.Common.{◌≡◌, ℕ, zero, suc, ◌<◌, ◌≤◌, Bool, true, not, refl, arith}
use Rattle.std.proofs.lemmas.Bool.{and_parts}
use Rattle.fapp_model.specs.declared.literal.Literal.{Literal}
use Rattle.fapp_model.specs.search.Arcs.{InArc, OutsideArc}
use Rattle.fapp_model.specs.Assignments.{count_at}
use Rattle.fapp_model.specs.search.Partials.{literal, IsLiteral}
use Rattle.dead_laws.specs.ExampleInstances.{tied_pair}
use Rattle.dead_laws.proofs.ArcTest.{same_literal, without}
use Rattle.dead_laws.proofs.ExamplesValid.{tied-valid}
use Rattle.dead_laws.proofs.ExampleTests.{each-literal, each_choice, inside-by, outside-below}

pub first-outside : (level : ℕ) → level ≤ 10 → OutsideArc tied_pair level (literal 0 0)
unfolding tied_pair
first-outside level small = outside-below tied_pair (literal 0 0) 1 11 refl refl level (omega arith)

pub unequal-outside : (level : ℕ) → level ≤ 11 → OutsideArc tied_pair level (literal 1 0)
unfolding tied_pair
unequal-outside level small = outside-below tied_pair (literal 1 0) 0 12 refl refl level (omega arith)

pub equal-outside : (level : ℕ) → level ≤ 10 → OutsideArc tied_pair level (literal 1 1)
unfolding tied_pair
equal-outside level small = outside-below tied_pair (literal 1 1) 0 11 refl refl level (omega arith)

pub none-outside : (level : ℕ) → level ≤ 10 → (index : ℕ) → index < count_at tied_pair 0 → OutsideArc tied_pair level (literal 0 index)
unfolding tied_pair
none-outside level small zero l = first-outside level small
none-outside level small (suc index) l = absurd (omega arith)

-- all choices but the unequal one
abbrev equals : Literal → Bool
equals = without (each_choice tied_pair) (literal 1 0)

equals-literal : (a : Literal) → equals a ≡ true → IsLiteral tied_pair a
equals-literal a h = each-literal tied_pair a (and_parts (each_choice tied_pair a) (not (same_literal (literal 1 0) a)) h).0

pub equals-inside : (a : Literal) → equals a ≡ true → InArc tied_pair 11 a
unfolding tied_pair
equals-inside = inside-by tied_pair 11 equals tied-valid equals-literal refl

pub first-inside : InArc tied_pair 11 (literal 0 0)
unfolding tied_pair
first-inside = equals-inside (literal 0 0) refl

pub equal-inside : InArc tied_pair 11 (literal 1 1)
unfolding tied_pair
equal-inside = equals-inside (literal 1 1) refl

pub some-inside : (path : ℕ) → path < 2 → (index : ℕ) × InArc tied_pair 11 (literal path index)
some-inside zero l = (0, first-inside)
some-inside (suc zero) l = (1, equal-inside)
some-inside (suc (suc path)) l = absurd (omega arith)
