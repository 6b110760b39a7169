-- The arcs of a level as a test: choices without a partner are removed one by one until none is left.
use Rattle.std.proofs.Common.{◌≡◌, ◌⊎◌, ℕ, zero, suc, ◌<◌, ◌≤◌, Bool, true, false, ◌&&◌, not, cond, length, get_or, refl, sym, ap, ◌∙◌, subst, inl, inr, arith, sum_by, count_by, IsTrue, eqb, ltb}
use Rattle.std.specs.List.{list_any, range_with_len}
use Rattle.std.proofs.lemmas.Bool.{and_parts, and_from, and_cases, and_right, both_ways, not-true, not-false, not_from_true, not_from_false, eqb-true, eq-eqb, ltb-true, lt-ltb}
use Rattle.fapp_model.specs.declared.instance.Instance.{Instance}
use Rattle.fapp_model.specs.declared.literal.Literal.{Literal}
use Rattle.fapp_model.specs.search.Arcs.{HasPartner, InArc, IsSupported}
use Rattle.fapp_model.specs.Assignments.{count_at}
use Rattle.fapp_model.specs.search.Clashes.{clashes, shares_record}
use Rattle.fapp_model.specs.Instances.{IsInstance}
use Rattle.fapp_model.specs.search.Partials.{literal, IsLiteral}
use Rattle.fapp_model.proofs.Anys.{passing, any-member, none-member, sum_by-lt-member}
use Rattle.fapp_model.proofs.Members.{in-range}
use Rattle.dead_laws.proofs.RecordEnds.{shares-range}
use Rattle.fapp_model.proofs.Sums.{count_by-le-members, cond-le}

-- whether a choice of the path is a partner of the literal in the family
abbrev pub partners : Instance → ℕ → (Literal → Bool) → Literal → ℕ → Bool
partners instance level family a path =
    list_any (λ index. family (literal path index) && not (clashes instance level a (literal path index))) (range_with_len 0 (count_at instance path))

-- whether the literal lacks a partner
abbrev pub is_lonely : Instance → ℕ → (Literal → Bool) → Literal → Bool
is_lonely instance level family a =
    list_any (λ path. shares_record instance a.path path && not (partners instance level family a path)) (range_with_len 0 (length instance.paths))

-- whether a member of the family lacks a partner
abbrev pub has_lonely_at : Instance → ℕ → (Literal → Bool) → ℕ → Bool
has_lonely_at instance level family path =
    list_any (λ index. family (literal path index) && is_lonely instance level family (literal path index)) (range_with_len 0 (count_at instance path))

abbrev pub has_lonely : Instance → ℕ → (Literal → Bool) → Bool
has_lonely instance level family = list_any (has_lonely_at instance level family) (range_with_len 0 (length instance.paths))

-- how many choices of a path are in the family, and how many in all
abbrev pub size_at : Instance → (Literal → Bool) → ℕ → ℕ
size_at instance family path = count_by (λ index. family (literal path index)) (range_with_len 0 (count_at instance path))

abbrev pub size : Instance → (Literal → Bool) → ℕ
size instance family = sum_by (size_at instance family) (range_with_len 0 (length instance.paths))

abbrev pub same_literal : Literal → Literal → Bool
same_literal a b = eqb a.path b.path && eqb a.choice b.choice

abbrev pub without : (Literal → Bool) → Literal → Literal → Bool
without family a b = family b && not (same_literal a b)

-- choices of the instance, among them those of each supported family
pub record IsWide (instance : Instance) (level : ℕ) (family : Literal → Bool) : Type 0 where
  pub in_range : (a : Literal) → IsTrue (family a) → IsLiteral instance a
  pub wide : (other : Literal → Bool) → IsSupported instance level other → (a : Literal) → IsTrue (other a) → IsTrue (family a)

-- a wide family with fewer members
pub record Narrower (instance : Instance) (level : ℕ) (family : Literal → Bool) : Type 0 where
  pub next : Literal → Bool
  pub wide : IsWide instance level next
  pub fewer : size instance next < size instance family

module _ (instance : Instance) (level : ℕ) (family : Literal → Bool) (valid : IsInstance instance) (in_range : (a : Literal) → IsTrue (family a) → IsLiteral instance a) where
  -- no member is lonely
  partner : has_lonely instance level family ≡ false → (a : Literal) (path : ℕ) → IsTrue (family a) → IsTrue (shares_record instance a.path path) → HasPartner instance level family a path
  partner none a path member shares =
      let at_home = in_range a member in
      let other = shares-range instance valid a.path path shares in
      let here = none-member (has_lonely_at instance level family) (range_with_len 0 (length instance.paths)) none a.path (in-range _ _ at_home.path) in
      let this = none-member (λ index. family (literal a.path index) && is_lonely instance level family (literal a.path index)) (range_with_len 0 (count_at instance a.path)) here a.choice (in-range _ _ at_home.choice) in
      let befriended : is_lonely instance level family a ≡ false = right_false (family a) (is_lonely instance level family a) member this in
      let there = none-member (λ path. shares_record instance a.path path && not (partners instance level family a path)) (range_with_len 0 (length instance.paths)) befriended path (in-range _ _ other.1) in
      let some = not-false (partners instance level family a path) (right_false (shares_record instance a.path path) (not (partners instance level family a path)) shares there) in
      let found = passing (λ index. family (literal path index) && not (clashes instance level a (literal path index))) (range_with_len 0 (count_at instance path)) some in
      let parts = and_parts (family (literal path found.item)) (not (clashes instance level a (literal path found.item))) found.passes in
      record { index = found.item; member = parts.0; apart = not-true _ parts.1 }
    where
      right_false : (x y : Bool) → x ≡ true → (x && y) ≡ false → y ≡ false
      right_false x y e h = elim (and_cases x y h) [ inl fails ↦ absurd (both_ways x fails e) | inr holds ↦ holds ]

  pub supported-by_test : has_lonely instance level family ≡ false → IsSupported instance level family
  supported-by_test none = record { in_range = in_range; supported = partner none }

module _ (instance : Instance) (level : ℕ) (family : Literal → Bool) (valid : IsInstance instance) (wide : IsWide instance level family) where
  -- a supported family has no lonely member
  never : (other : Literal → Bool) → IsSupported instance level other → (a : Literal) → IsTrue (other a) → is_lonely instance level family a ≡ true → ⊥
  never other supported a member lonely =
      let found = passing (λ path. shares_record instance a.path path && not (partners instance level family a path)) (range_with_len 0 (length instance.paths)) lonely in
      let parts = and_parts (shares_record instance a.path found.item) (not (partners instance level family a found.item)) found.passes in
      let friend = supported.supported a found.item member parts.0 in
      let kept = wide.wide other supported (literal found.item friend.index) friend.member in
      let small = (wide.in_range (literal found.item friend.index) kept).choice in
      both_ways (partners instance level family a found.item) (not-true _ parts.1)
      (any-member (λ index. family (literal found.item index) && not (clashes instance level a (literal found.item index))) (range_with_len 0 (count_at instance found.item)) friend.index (in-range _ _ small)
      (and_from _ _ kept (not_from_false _ friend.apart)))

  size-without : (a : Literal) → IsTrue (family a) → size instance (without family a) < size instance family
  size-without a member =
      let at_home = wide.in_range a member in
      sum_by-lt-member (size_at instance (without family a)) (size_at instance family) (range_with_len 0 (length instance.paths)) a.path
      (λ k d l. count_by-le-members _ _ (range_with_len 0 (count_at instance (get_or (range_with_len 0 (length instance.paths)) k d))) (λ i e m h. (and_parts _ _ h).0))
      (in-range _ _ at_home.path)
      (sum_by-lt-member (λ index. cond (without family a (literal a.path index)) 1 0) (λ index. cond (family (literal a.path index)) 1 0) (range_with_len 0 (count_at instance a.path)) a.choice
      (λ i e m. cond-le (without family a (literal a.path (get_or (range_with_len 0 (count_at instance a.path)) i e))) (family (literal a.path (get_or (range_with_len 0 (count_at instance a.path)) i e))) (λ h. (and_parts _ _ h).0))
      (in-range _ _ at_home.choice)
      (less (without family a a) (family a) (and_right (family a) (not (same_literal a a)) (not_from_true (same_literal a a) (and_from _ _ (eq-eqb a.path a.path refl) (eq-eqb a.choice a.choice refl)))) member))
    where
      less : (x y : Bool) → x ≡ false → y ≡ true → cond x 1 0 < cond y 1 0
      less x y e f = subst (λ v. v < cond y 1 0) (sym (ap (λ b. cond b 1 0) e)) (subst (λ v. 0 < v) (sym (ap (λ b. cond b 1 0) f)) (omega arith))

  wide-without : (a : Literal) → is_lonely instance level family a ≡ true → IsWide instance level (without family a)
  wide-without a lonely = record {
    in_range = λ b h. wide.in_range b (and_parts _ _ h).0;
    wide = λ other supported b h. and_from (family b) (not (same_literal a b)) (wide.wide other supported b h)
        (differs other supported b h (same_literal a b) refl);
  }
    where
      same_from : (b : Literal) → same_literal a b ≡ true → b ≡ a
      same_from b e =
          let parts = and_parts (eqb a.path b.path) (eqb a.choice b.choice) e in
          let p : b.path ≡ a.path = sym (eqb-true _ _ parts.0) in
          let c : b.choice ≡ a.choice = sym (eqb-true _ _ parts.1) in
          ap (λ x. literal x b.choice) p ∙ ap (literal a.path) c

      differs : (other : Literal → Bool) → IsSupported instance level other → (b : Literal) → IsTrue (other b) → (t : Bool) → same_literal a b ≡ t → not (same_literal a b) ≡ true
      differs other supported b h true e = absurd (never other supported a (subst (λ x. IsTrue (other x)) (same_from b e) h) lonely)
      differs other supported b h false e = not_from_false (same_literal a b) e

  pub narrow : (IsSupported instance level family) ⊎ Narrower instance level family
  narrow = by_cases (has_lonely instance level family) refl
    where
      by_cases : (t : Bool) → has_lonely instance level family ≡ t → (IsSupported instance level family) ⊎ Narrower instance level family
      by_cases false none = inl (supported-by_test instance level family valid wide.in_range none)
      by_cases true some =
          let home = passing (has_lonely_at instance level family) (range_with_len 0 (length instance.paths)) some in
          let found = passing (λ index. family (literal home.item index) && is_lonely instance level family (literal home.item index)) (range_with_len 0 (count_at instance home.item)) home.passes in
          let parts = and_parts (family (literal home.item found.item)) (is_lonely instance level family (literal home.item found.item)) found.passes in
          inr (record {
            next = without family (literal home.item found.item);
            wide = wide-without (literal home.item found.item) parts.1;
            fewer = size-without (literal home.item found.item) parts.0;
          })

-- the greatest supported family
pub record IsGreatest (instance : Instance) (level : ℕ) (family : Literal → Bool) : Type 0 where
  pub supported : IsSupported instance level family
  pub wide : IsWide instance level family

pub greatest_within : (n : ℕ) (instance : Instance) (level : ℕ) → IsInstance instance → (family : Literal → Bool) → IsWide instance level family → size instance family ≤ n → (arc : Literal → Bool) × IsGreatest instance level arc
greatest_within zero instance level v family wide few =
    elim (narrow instance level family v wide) [
      | inl s ↦ (family, record { supported = s; wide = wide })
      | inr next ↦ absurd (omega (arith, next.fewer))
    ]
greatest_within (suc n) instance level v family wide few =
    elim (narrow instance level family v wide) [
      | inl s ↦ (family, record { supported = s; wide = wide })
      | inr next ↦ greatest_within n instance level v next.next next.wide (omega (arith, next.fewer))
    ]

-- all choices of the instance
abbrev pub all_choices : Instance → Literal → Bool
all_choices instance a = ltb a.path (length instance.paths) && ltb a.choice (count_at instance a.path)

all_choices-wide : (instance : Instance) (level : ℕ) → IsWide instance level (all_choices instance)
all_choices-wide instance level = record {
  in_range = λ a h. let parts = and_parts (ltb a.path (length instance.paths)) (ltb a.choice (count_at instance a.path)) h in
      record { path = ltb-true _ _ parts.0; choice = ltb-true _ _ parts.1 };
  wide = λ other supported a h. let at_home = supported.in_range a h in
      and_from _ _ (lt-ltb _ _ at_home.path) (lt-ltb _ _ at_home.choice);
}

pub greatest : (instance : Instance) (level : ℕ) → IsInstance instance → (arc : Literal → Bool) × IsGreatest instance level arc
greatest instance level v = greatest_within (size instance (all_choices instance)) instance level v (all_choices instance) (all_choices-wide instance level) (omega arith)

pub InArc-from_greatest : (instance : Instance) (level : ℕ) (arc : Literal → Bool) → IsGreatest instance level arc → (a : Literal) → IsTrue (arc a) → InArc instance level a
InArc-from_greatest instance level arc g a h = (arc, g.supported, h)

pub greatest-from_InArc : (instance : Instance) (level : ℕ) (arc : Literal → Bool) → IsGreatest instance level arc → (a : Literal) → InArc instance level a → IsTrue (arc a)
greatest-from_InArc instance level arc g a (family, supported, h) = g.wide.wide family supported a h
