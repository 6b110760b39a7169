-- The neighbours of a path, one by one.
use Rattle.std.proofs.Common.{◌≡◌, ℕ, ◌+◌, ◌<◌, ◌≤◌, Bool, true, false, eqb, ◌||◌, List, length, take, get_or, refl, sym, ap, ◌∙◌, subst, arith, Contains}
use Rattle.std.specs.List.{list_any, range_with_len}
use Rattle.std.proofs.lemmas.Bool.{both_ways, eq-eqb, eqb-true, false_from_ne_true, ne_eqb, or_right}
use Rattle.std.proofs.lemmas.List.{get_or-take, get_or_default, length-take-le}
use Rattle.std.proofs.lemmas.List.Elements.{Contains-get_or}
use Rattle.std.proofs.lemmas.List.Folds.{list_any_more}
use Rattle.std.proofs.lemmas.List.FromFn.{length-range_with_len}
use Rattle.std.proofs.lemmas.List.Sums.{count_by-le-length, length-filter}
use Rattle.fapp_model.specs.declared.instance.Instance.{Instance}
use Rattle.fapp_model.specs.search.Clashes.{shares_record}
use Rattle.fapp_model.proofs.Anys.{any-member, passing}
use Rattle.fapp_tables.specs.Indexes.{neighbours_of}
use Rattle.fapp_tables.proofs.IndexMembers.{neighbours-members, neighbours-rise}

-- a list has a number
abbrev pub leads : List ℕ → ℕ → Bool
leads xs q = list_any (λ x. eqb x q) xs

module _ (instance : Instance) (path : ℕ) where
  abbrev near : List ℕ
  near = neighbours_of instance path

  member : (i : ℕ) → i < length near → Contains near (get_or near i 0)
  member i inside = Contains-get_or near i 0 inside

  pub near_below : (i : ℕ) → i < length near → get_or near i 0 < length instance.paths
  near_below i inside = ((neighbours-members instance path (get_or near i 0)).0 (member i inside)).0

  pub near_shares : (i : ℕ) → i < length near → shares_record instance path (get_or near i 0) ≡ true
  near_shares i inside = ((neighbours-members instance path (get_or near i 0)).0 (member i inside)).1

  -- all of them are the paths that share a record
  pub near_all : (q : ℕ) → q < length instance.paths → leads near q ≡ shares_record instance path q
  near_all q below = by_cases (shares_record instance path q) refl
    where
      by_cases : (b : Bool) → shares_record instance path q ≡ b → leads near q ≡ b
      by_cases true e = any-member (λ x. eqb x q) near q ((neighbours-members instance path q).1 (below, e)) (eq-eqb q q refl)
      by_cases false e = false_from_ne_true (leads near q) (λ found_one.
          let found = passing (λ x. eqb x q) near found_one in
          let shares = ((neighbours-members instance path found.item).0 found.member).1 in
          both_ways (shares_record instance path q) e (subst (λ k. shares_record instance path k ≡ true) (eqb-true found.item q found.passes) shares))

  -- none stands twice
  pub near_new : (i : ℕ) → i < length near → leads (take i near) (get_or near i 0) ≡ false
  near_new i inside = false_from_ne_true (leads (take i near) (get_or near i 0)) (λ found_one.
      let q = get_or near i 0 in
      let found = passing (λ x. eqb x q) (take i near) found_one in
      let at = found.member in
      let early : at.0 < i = omega (arith, at.1, length-take-le i near (omega arith)) in
      let same : get_or near at.0 found.item ≡ q = sym (get_or-take i near at.0 found.item early) ∙ (at.2 ∙ eqb-true found.item q found.passes) in
      let rises = neighbours-rise instance path at.0 i found.item early inside in
      let here : get_or near i found.item ≡ q = get_or_default near i found.item 0 inside in
      omega (arith, rises, same, here))

-- one more of them
pub leads_more : (xs : List ℕ) (i q : ℕ) → i < length xs → leads (take (i + 1) xs) q ≡ (leads (take i xs) q || eqb (get_or xs i 0) q)
leads_more xs i q inside = list_any_more (λ x. eqb x q) xs i 0 inside

pub leads_here : (xs : List ℕ) (i : ℕ) → i < length xs → leads (take (i + 1) xs) (get_or xs i 0) ≡ true
leads_here xs i inside = leads_more xs i (get_or xs i 0) inside ∙ or_right (leads (take i xs) (get_or xs i 0)) (eqb (get_or xs i 0) (get_or xs i 0)) (eq-eqb _ _ refl)

pub leads_elsewhere : (xs : List ℕ) (i q : ℕ) → i < length xs → (q ≡ get_or xs i 0 → ⊥) → leads (take (i + 1) xs) q ≡ leads (take i xs) q
leads_elsewhere xs i q inside other =
    leads_more xs i q inside ∙ (ap (λ b. leads (take i xs) q || b) (ne_eqb (get_or xs i 0) q (λ e. other (sym e))) ∙ or_false (leads (take i xs) q))
  where
    or_false : (b : Bool) → (b || false) ≡ b
    or_false true = refl
    or_false false = refl

pub near_few : (instance : Instance) (path : ℕ) → length (neighbours_of instance path) ≤ length instance.paths
near_few instance path =
    let kept = length-filter (shares_record instance path) (range_with_len 0 (length instance.paths)) in
    let most = count_by-le-length (shares_record instance path) (range_with_len 0 (length instance.paths)) in
    omega (arith, kept, most, length-range_with_len 0 (length instance.paths))
