-- Slots and the literals that they hold.
use Rattle.std.proofs.Common.{◌≡◌, ◌≢◌, ◌⊎◌, ℕ, zero, suc, append-nil, drop, ◌+◌, ◌-◌, ◌<◌, ◌≤◌, Bool, true, false, cond, eqb, not, Option, Some, None, List, [], ◌∷◌, ◌++◌, length, filter, get_or, replicate, set, take, refl, sym, ap, ◌∙◌, subst, inl, inr, ⊎_elim, arith, sum_by, All, AllPairs, Contains}
use Rattle.std.specs.List.{range_with_len, remove}
use Rattle.std.specs.Option.{is_some}
use Rattle.std.proofs.lemmas.Bool.{both_ways, cases_Bool, cases_eq, cases_lt, eq-eqb, eqb-true, eqb-false, false_from_ne_true, ne_eqb, not-true, not_from_false, or_parts}
use Rattle.std.proofs.lemmas.List.{drop_all, get_or-replicate, get_or-set_other, get_or-set_same, get_or_past, length-replicate, length-set}
use Rattle.std.proofs.lemmas.List.Elements.{All-filter, Contains-append_left, Contains-get_or, Contains-push, Contains-push_cases, filter-append}
use Rattle.std.proofs.lemmas.List.Kept.{AllPairs-filter}
use Rattle.dead_laws.proofs.Picks.{AreDistinct, at-names, distinct-tail, head-not-named, names-at, pick, sum_by-split}
use Rattle.fapp_model.specs.declared.instance.Instance.{Instance}
use Rattle.fapp_model.specs.declared.literal.Literal.{Literal}
use Rattle.fapp_model.specs.search.Partials.{IsLiteral, IsPartial, literal, names}
use Rattle.fapp_model.proofs.Anys.{no-member}
use Rattle.fapp_model.proofs.Members.{from-filter, in-filter, no_member}
use Rattle.fapp_model.proofs.Sums.{range-sum-same, sum_by-same-members}
use Rattle.fapp_tables.proofs.PairLaws.{sum_by-filter, sum_by-positions}
use Rattle.nogood.specs.Literals.{other_paths}
use Rattle.nogood.specs.Partials.{GivesChoice, choice_given}
use Rattle.choice_counts.specs.declared.rows.PathTallies.{PathTallies}
use Rattle.choice_counts.specs.ForwardStates.{AreSlots}
use Rattle.choice_counts.specs.Totals.{open_sum}
use Rattle.choice_counts.specs.Tallies.{no_tallies, tallies_at}
use Rattle.choice_counts.proofs.OneMore.{IsOneMore}

pub some-is : (x y : ℕ) → Some x ≡ Some y → x ≡ y
some-is x y e = cc

pub none-some : (x : ℕ) (o : Option ℕ) → o ≡ None → o ≡ Some x → ⊥
none-some x o e f = absurd (let bad : None ≡ Some x = sym e ∙ f in cc)

-- a path with a literal is one whose slot is taken
pub named : (instance : Instance) (literals : List Literal) (slots : List (Option ℕ)) → AreSlots instance literals slots → (path : ℕ) → is_some (choice_given slots path) ≡ names literals path
named instance literals slots held path = by_cases (choice_given slots path) refl
  where
    by_cases : (o : Option ℕ) → choice_given slots path ≡ o → is_some o ≡ names literals path
    by_cases None e = sym (no-member (λ (a : Literal). eqb a.path path) literals (λ a c. false_from_ne_true (eqb a.path path) (λ same.
        none-some a.choice (choice_given slots path) e (ap (choice_given slots) (sym (eqb-true a.path path same)) ∙ (held.given a).1 c))))
    by_cases (Some c) e = sym (at-names literals (literal path c) ((held.given (literal path c)).0 e))

abbrev pub blanks : ℕ → List (Option ℕ)
blanks n = replicate n None

pub blank_slot : (n path : ℕ) → choice_given (blanks n) path ≡ None
blank_slot n path = elim (cases_lt path n) [
  | inl less ↦ get_or-replicate n path None None less
  | inr more ↦ get_or_past (blanks n) path None (let count : length (blanks n) ≡ n = length-replicate n None in omega (arith, more, count))
]

pub slots_none : (instance : Instance) (n : ℕ) → n ≡ length instance.paths → AreSlots instance [] (blanks n)
slots_none instance n e = record {
  whole = length-replicate n None ∙ e;
  given = λ a. (λ g. absurd (none-some a.choice (choice_given (blanks n) a.path) (blank_slot n a.path) g), λ c. absurd (no_member a c));
}

-- where no slot is taken each path is open
pub open_none : (f : ℕ → ℕ) (rows : List PathTallies) (n : ℕ) → length rows ≡ n → open_sum f (blanks n) rows ≡ sum_by (λ (r : PathTallies). f r.least) rows
open_none f rows n e =
    let count : length (blanks n) ≡ length rows = length-replicate n None ∙ sym e in
    ap (λ m. sum_by (λ p. cond (is_some (choice_given (blanks n) p)) 0 (f (tallies_at rows p).least)) (range_with_len 0 m)) count
    ∙ (range-sum-same (λ p. cond (is_some (choice_given (blanks n) p)) 0 (f (tallies_at rows p).least)) (λ p. f (tallies_at rows p).least) (length rows) (λ p below. ap (λ o. cond (is_some o) 0 (f (tallies_at rows p).least)) (blank_slot n p))
    ∙ sum_by-positions (λ (r : PathTallies). f r.least) no_tallies rows)

-- two literals of one path and choice are one
pub literal-is : (a : Literal) (path choice : ℕ) → a.path ≡ path → a.choice ≡ choice → literal path choice ≡ a
literal-is a path choice e f = ap (λ p. literal p choice) (sym e) ∙ ap (literal a.path) (sym f)

-- a slot that is taken
pub slots_push : (instance : Instance) (literals : List Literal) (slots : List (Option ℕ)) (path choice : ℕ) → AreSlots instance literals slots → path < length slots → names literals path ≡ false →
    AreSlots instance (literals ++ literal path choice ∷ []) (set slots path (Some choice))
slots_push instance literals slots path choice held inside free = record {
  whole = length-set slots path (Some choice) ∙ held.whole;
  given = λ a. (gives a, holds a);
}
  where
    here : choice_given (set slots path (Some choice)) path ≡ Some choice
    here = get_or-set_same slots path (Some choice) None inside

    gives : (a : Literal) → GivesChoice (set slots path (Some choice)) a → Contains (literals ++ literal path choice ∷ []) a
    gives a g = elim (cases_eq a.path path) [
      | inl same ↦
          let is = some-is choice a.choice (sym here ∙ (ap (choice_given (set slots path (Some choice))) (sym same) ∙ g)) in
          subst (Contains (literals ++ literal path choice ∷ [])) (literal-is a path choice same (sym is)) (Contains-push literals (literal path choice))
      | inr other ↦ Contains-append_left literals (literal path choice ∷ []) a ((held.given a).0 (sym (get_or-set_other slots path a.path (Some choice) None other) ∙ g))
    ]

    holds : (a : Literal) → Contains (literals ++ literal path choice ∷ []) a → GivesChoice (set slots path (Some choice)) a
    holds a c = elim (Contains-push_cases literals (literal path choice) a c) [
      | inl old ↦ get_or-set_other slots path a.path (Some choice) None (λ same. both_ways (names literals path) free (subst (λ p. names literals p ≡ true) same (at-names literals a old))) ∙ (held.given a).1 old
      | inr new ↦ subst (GivesChoice (set slots path (Some choice))) new here
    ]

-- a slot that is emptied
pub slots_drop : (instance : Instance) (literals : List Literal) (slots : List (Option ℕ)) (path : ℕ) → AreSlots instance literals slots → path < length slots →
    AreSlots instance (other_paths path literals) (set slots path None)
slots_drop instance literals slots path held inside = record {
  whole = length-set slots path None ∙ held.whole;
  given = λ a. (gives a, holds a);
}
  where
    here : choice_given (set slots path None) path ≡ None
    here = get_or-set_same slots path None None inside

    gives : (a : Literal) → GivesChoice (set slots path None) a → Contains (other_paths path literals) a
    gives a g = elim (cases_eq a.path path) [
      | inl same ↦ absurd (none-some a.choice (choice_given (set slots path None) a.path) (ap (choice_given (set slots path None)) same ∙ here) g)
      | inr other ↦ in-filter (λ (b : Literal). not (eqb b.path path)) literals a ((held.given a).0 (sym (get_or-set_other slots path a.path None None other) ∙ g)) (not_from_false (eqb a.path path) (ne_eqb a.path path other))
    ]

    holds : (a : Literal) → Contains (other_paths path literals) a → GivesChoice (set slots path None) a
    holds a c =
        let found = from-filter (λ (b : Literal). not (eqb b.path path)) literals a c in
        get_or-set_other slots path a.path None None (eqb-false a.path path (not-true (eqb a.path path) found.1)) ∙ (held.given a).1 found.0

-- ---- one literal less

cond-not : (t : Bool) (n : ℕ) → cond (not t) n 0 ≡ cond t 0 n
cond-not true n = refl
cond-not false n = refl

pub one_dropped : (literals : List Literal) (a : Literal) → AreDistinct literals → Contains literals a → IsOneMore (other_paths a.path literals) literals a
one_dropped literals a distinct member f =
    let kept = sum_by-filter f (λ (b : Literal). not (eqb b.path a.path)) literals in
    let same = others_same f in
    let split = sum_by-split (λ (b : Literal). eqb b.path a.path) f literals in
    let here = pick (λ (b : Literal). eqb b.path a.path) f literals a member (eq-eqb a.path a.path refl) (λ i j d less small first second. distinct i j d less small (eqb-true _ _ first ∙ sym (eqb-true _ _ second))) in
    omega (arith, kept, same, split, here)
  where
    others_same : (f : Literal → ℕ) → sum_by (λ (b : Literal). cond (not (eqb b.path a.path)) (f b) 0) literals ≡ sum_by (λ (b : Literal). cond (eqb b.path a.path) 0 (f b)) literals
    others_same f = sum_by-same-members (λ (b : Literal). cond (not (eqb b.path a.path)) (f b) 0) (λ (b : Literal). cond (eqb b.path a.path) 0 (f b)) literals (λ k d _. cond-not (eqb (get_or literals k d).path a.path) (f (get_or literals k d)))

pub partial_drop : (instance : Instance) (literals : List Literal) (path : ℕ) → IsPartial instance literals → IsPartial instance (other_paths path literals)
partial_drop instance literals path partial = record {
  in_range = All-filter (λ (b : Literal). not (eqb b.path path)) (IsLiteral instance) literals partial.in_range;
  distinct = AllPairs-filter (λ (a b : Literal). a.path ≢ b.path) (λ (b : Literal). not (eqb b.path path)) literals partial.distinct;
}

-- ---- a literal that stands at a place

filter-all : (path : ℕ) (literals : List Literal) → names literals path ≡ false → other_paths path literals ≡ literals
filter-all path [] free = refl
filter-all path (a ∷ literals) free =
    let parts = or_parts (eqb a.path path) (names literals path) free in
    ap (λ t. cond (not t) (a ∷ other_paths path literals) (other_paths path literals)) parts.0 ∙ ap (λ (ls : List Literal). a ∷ ls) (filter-all path literals parts.1)

-- a literal is left out by its place or by its path
pub remove_is : (literals : List Literal) (place : ℕ) (d : Literal) → AreDistinct literals → place < length literals → remove literals place ≡ other_paths (get_or literals place d).path literals
remove_is [] place d distinct inside = absurd (omega arith)
remove_is (a ∷ literals) zero d distinct inside =
    sym (ap (λ t. cond (not t) (a ∷ other_paths a.path literals) (other_paths a.path literals)) (eq-eqb a.path a.path refl) ∙ filter-all a.path literals (head-not-named a literals distinct))
remove_is (a ∷ literals) (suc place) d distinct inside =
    let below : place < length literals = omega arith in
    let q = (get_or literals place d).path in
    let apart : eqb a.path q ≡ false = ne_eqb a.path q (distinct 0 (suc place) d (omega arith) (omega arith)) in
    ap (λ (ls : List Literal). a ∷ ls) (remove_is literals place d (distinct-tail a literals distinct) below)
    ∙ sym (ap (λ t. cond (not t) (a ∷ other_paths q literals) (other_paths q literals)) apart)

-- the last one is left out
pub remove_last : (literals : List Literal) → 0 < length literals → remove literals (length literals - 1) ≡ take (length literals - 1) literals
remove_last literals some =
    ap (λ (ls : List Literal). take (length literals - 1) literals ++ ls) (drop_all (suc (length literals - 1)) literals (omega arith)) ∙ append-nil (take (length literals - 1) literals)
