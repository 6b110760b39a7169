-- Sums in which a test picks members.
use Rattle.std.proofs.Common.{◌≡◌, ◌≢◌, ℕ, zero, suc, ◌+◌, ◌<◌, ◌≤◌, Bool, true, false, ◌||◌, cond, List, [], ◌∷◌, length, get_or, refl, sym, ap, ◌∙◌, subst, inl, inr, arith, sum_by, All, AllPairs, Contains, eqb}
use Rattle.std.specs.List.{range_with_len}
use Rattle.std.proofs.lemmas.Bool.{cases_order, cond-true, cond-false, false_from_ne_true, eqb-true, eq-eqb}
use Rattle.std.proofs.lemmas.List.Sums.{sum_by-cons}
use Rattle.std.proofs.lemmas.List.Elements.{All-from_get_or, All-tail, All-head}
use Rattle.std.proofs.lemmas.List.FromFn.{length-range_with_len, get_or-range_with_len}
use Rattle.fapp_model.specs.declared.literal.Literal.{Literal}
use Rattle.fapp_model.specs.search.Partials.{names}
use Rattle.fapp_model.specs.search.Partials.{HasAll}
use Rattle.fapp_model.proofs.Anys.{passing, any-member, no-member}
use Rattle.fapp_model.proofs.Members.{in-range}
use Rattle.fapp_model.proofs.Sums.{sum_by-add, sum_by-le-members, sum_by-none, sum_by-same-members}

pick-at : {X : Type 0} (test : X → Bool) (g : X → ℕ) (xs : List X) (k : ℕ) (d : X) → k < length xs → test (get_or xs k d) ≡ true → ((j : ℕ) → j < length xs → j ≢ k → test (get_or xs j d) ≡ false) → sum_by (λ x. cond (test x) (g x) 0) xs ≡ g (get_or xs k d)
pick-at test g [] k d h e others = absurd (omega arith)
pick-at test g (x ∷ xs) zero d h e others =
    let here : cond (test x) (g x) 0 ≡ g x = cond-true (test x) (g x) 0 e in
    let rest = sum_by-none (λ x. cond (test x) (g x) 0) xs (All-from_get_or (λ x. cond (test x) (g x) 0 ≡ 0) xs d (λ j l. cond-false (test (get_or xs j d)) (g (get_or xs j d)) 0 (others (suc j) (omega arith) (λ (same : suc j ≡ 0). omega arith)))) in
    omega (arith, sum_by-cons (λ x. cond (test x) (g x) 0) x xs)
pick-at test g (x ∷ xs) (suc k) d h e others =
    let here : cond (test x) (g x) 0 ≡ 0 = cond-false (test x) (g x) 0 (others 0 (omega arith) (λ (same : 0 ≡ suc k). omega arith)) in
    let rest = pick-at test g xs k d (omega arith) e (λ j l ne. others (suc j) (omega arith) (λ (same : suc j ≡ suc k). ne (omega arith))) in
    omega (arith, sum_by-cons (λ x. cond (test x) (g x) 0) x xs)

-- the one member that passes
pub pick : {X : Type 0} (test : X → Bool) (g : X → ℕ) (xs : List X) (y : X) → Contains xs y → test y ≡ true → ((i j : ℕ) (d : X) → i < j → j < length xs → test (get_or xs i d) ≡ true → test (get_or xs j d) ≡ true → ⊥) → sum_by (λ x. cond (test x) (g x) 0) xs ≡ g y
pick test g xs y (k, l, e) pass apart =
    let here = subst (λ x. test x ≡ true) (sym e) pass in
    pick-at test g xs k y l here (λ j small ne. false_from_ne_true (test (get_or xs j y)) (λ also.
    elim (cases_order j k) [
      | inl same ↦ ne same
      | inr (inl less) ↦ apart j k y less l also here
      | inr (inr more) ↦ apart k j y more small here also
    ])) ∙ ap g e

abbrev pub AreDistinct : List Literal → Type 0
AreDistinct literals = AllPairs (λ (a b : Literal). a.path ≢ b.path) literals

pub distinct-tail : (a : Literal) (literals : List Literal) → AreDistinct (a ∷ literals) → AreDistinct literals
distinct-tail a literals h = λ i j d less small. h (suc i) (suc j) d (omega arith) (omega arith)

pub names-at : (literals : List Literal) (path : ℕ) → names literals path ≡ true → (a : Literal) × Contains literals a × (a.path ≡ path)
names-at literals path h =
    let found = passing (λ (a : Literal). eqb a.path path) literals h in
    (found.item, found.member, eqb-true found.item.path path found.passes)

pub at-names : (literals : List Literal) (a : Literal) → Contains literals a → names literals a.path ≡ true
at-names literals a h = any-member (λ (b : Literal). eqb b.path a.path) literals a h (eq-eqb a.path a.path refl)

pub head-not-named : (a : Literal) (literals : List Literal) → AreDistinct (a ∷ literals) → names literals a.path ≡ false
head-not-named a literals h = no-member (λ (b : Literal). eqb b.path a.path) literals (λ b c. false_from_ne_true (eqb b.path a.path) (λ e.
    h 0 (suc c.0) b (omega arith) (omega (arith, c.1)) (sym (ap (λ (x : Literal). x.path) c.2 ∙ eqb-true b.path a.path e))))

-- a test that is one of two that never hold at once
cond-or : (x y : Bool) (n : ℕ) → (x ≡ true → y ≡ false) → cond (x || y) n 0 ≡ cond x n 0 + cond y n 0
cond-or true y n apart = let off : cond y n 0 ≡ 0 = cond-false y n 0 (apart refl) in omega arith
cond-or false y n apart = omega arith

one_of_path : (literals : List Literal) → AreDistinct literals → (path : ℕ) → (i j : ℕ) (d : Literal) → i < j → j < length literals → eqb path (get_or literals i d).path ≡ true → eqb path (get_or literals j d).path ≡ true → ⊥
one_of_path literals distinct path i j d less small first second = distinct i j d less small (sym (eqb-true _ _ first) ∙ eqb-true _ _ second)

-- over the literals of a list that another names, where it has all of that one's
pub named-sum : (g : Literal → ℕ) (literals more : List Literal) → AreDistinct literals → AreDistinct more → HasAll more literals → sum_by (λ b. cond (names literals b.path) (g b) 0) more ≡ sum_by g literals
named-sum g [] more distinct apart has = sum_by-none (λ (b : Literal). 0) more (λ k d l. refl)
named-sum g (a ∷ literals) more distinct apart has =
    let split = sum_by-same-members (λ (b : Literal). cond (names (a ∷ literals) b.path) (g b) 0) (λ (b : Literal). cond (eqb a.path b.path) (g b) 0 + cond (names literals b.path) (g b) 0) more
    (λ k d l. cond-or (eqb a.path (get_or more k d).path) (names literals (get_or more k d).path) (g (get_or more k d))
    (λ e. subst (λ p. names literals p ≡ false) (eqb-true a.path (get_or more k d).path e) (head-not-named a literals distinct))) in
    let sums = sum_by-add (λ (b : Literal). cond (eqb a.path b.path) (g b) 0) (λ (b : Literal). cond (names literals b.path) (g b) 0) more in
    let first = pick (λ (b : Literal). eqb a.path b.path) g more a (All-head (Contains more) a literals has) (eq-eqb a.path a.path refl) (one_of_path more apart a.path) in
    let rest = named-sum g literals more (distinct-tail a literals distinct) apart (All-tail (Contains more) a literals has) in
    omega (arith, sum_by-cons g a literals)

pub range_apart : (n path : ℕ) → (i j d : ℕ) → i < j → j < length (range_with_len 0 n) → eqb path (get_or (range_with_len 0 n) i d) ≡ true → eqb path (get_or (range_with_len 0 n) j d) ≡ true → ⊥
range_apart n path i j d less small first second =
    let bound : j < n = omega (arith, length-range_with_len 0 n) in
    let lower : i < n = omega arith in
    omega (arith, eqb-true _ _ first, eqb-true _ _ second, get_or-range_with_len 0 n i d lower, get_or-range_with_len 0 n j d bound)

-- over the paths that a list names
pub range-named : (k : ℕ → ℕ) (n : ℕ) (literals : List Literal) → AreDistinct literals → All (λ (a : Literal). a.path < n) literals → sum_by (λ p. cond (names literals p) (k p) 0) (range_with_len 0 n) ≡ sum_by (λ (a : Literal). k a.path) literals
range-named k n [] distinct small = sum_by-none (λ (p : ℕ). 0) (range_with_len 0 n) (λ i d l. refl)
range-named k n (a ∷ literals) distinct small =
    let split = sum_by-same-members (λ p. cond (names (a ∷ literals) p) (k p) 0) (λ p. cond (eqb a.path p) (k p) 0 + cond (names literals p) (k p) 0) (range_with_len 0 n)
    (λ i d l. cond-or (eqb a.path (get_or (range_with_len 0 n) i d)) (names literals (get_or (range_with_len 0 n) i d)) (k (get_or (range_with_len 0 n) i d))
    (λ e. subst (λ p. names literals p ≡ false) (eqb-true a.path (get_or (range_with_len 0 n) i d) e) (head-not-named a literals distinct))) in
    let sums = sum_by-add (λ p. cond (eqb a.path p) (k p) 0) (λ p. cond (names literals p) (k p) 0) (range_with_len 0 n) in
    let first = pick (λ p. eqb a.path p) k (range_with_len 0 n) a.path (in-range n a.path (All-head (λ (b : Literal). b.path < n) a literals small)) (eq-eqb a.path a.path refl) (range_apart n a.path) in
    let rest = range-named k n literals (distinct-tail a literals distinct) (All-tail (λ (b : Literal). b.path < n) a literals small) in
    omega (arith, sum_by-cons (λ (b : Literal). k b.path) a literals)

cond-le-whole : (b : Bool) (n : ℕ) → cond b n 0 ≤ n
cond-le-whole true n = omega arith
cond-le-whole false n = omega arith

-- a list sums to no less than one all of whose literals it has
pub fewer-sum : (g : Literal → ℕ) (literals more : List Literal) → AreDistinct literals → AreDistinct more → HasAll more literals → sum_by g literals ≤ sum_by g more
fewer-sum g literals more distinct apart has =
    let picked = named-sum g literals more distinct apart has in
    let bound = sum_by-le-members (λ (b : Literal). cond (names literals b.path) (g b) 0) g more (λ k d l. cond-le-whole (names literals (get_or more k d).path) (g (get_or more k d))) in
    omega arith

cond-split : (b : Bool) (n : ℕ) → n ≡ cond b n 0 + cond b 0 n
cond-split true n = omega arith
cond-split false n = omega arith

-- a sum by what passes a test and what doesn't
pub sum_by-split : {X : Type 0} (test : X → Bool) (g : X → ℕ) (xs : List X) → sum_by g xs ≡ sum_by (λ x. cond (test x) (g x) 0) xs + sum_by (λ x. cond (test x) 0 (g x)) xs
sum_by-split test g xs = sum_by-same-members g (λ x. cond (test x) (g x) 0 + cond (test x) 0 (g x)) xs (λ k d l. cond-split (test (get_or xs k d)) (g (get_or xs k d))) ∙ sum_by-add (λ x. cond (test x) (g x) 0) (λ x. cond (test x) 0 (g x)) xs
