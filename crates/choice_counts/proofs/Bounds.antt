-- How large sums can be: each record is counted once at most.
use Rattle.std.proofs.Common.{◌≡◌, ◌≢◌, ◌⊎◌, ℕ, zero, suc, ◌+◌, ◌-◌, ◌*◌, ◌^◌, ◌<◌, ◌≤◌, Bool, true, false, cond, eqb, ◌&&◌, ◌||◌, List, [], ◌∷◌, ◌++◌, length, get_or, refl, sym, ap, ◌∙◌, subst, inl, inr, arith, sum_by, All, AllPairs}
use Rattle.std.specs.List.{range_with_len}
use Rattle.std.proofs.lemmas.Bool.{cases_Bool, cases_eq, and_left, and_right, eq-eqb, ne_eqb}
use Rattle.std.proofs.lemmas.List.Elements.{All-push, Contains-get_or}
use Rattle.std.proofs.lemmas.List.Folds.{list_any-append}
use Rattle.std.proofs.lemmas.List.FromFn.{length-range_with_len}
use Rattle.std.proofs.lemmas.List.Quantifiers.{all_pairs_push}
use Rattle.std.proofs.lemmas.List.Sums.{count_by-le-length, sum_by-cons, sum_by-le}
use Rattle.dead_laws.proofs.Picks.{AreDistinct, at-names, distinct-tail, head-not-named, range-named}
use Rattle.fapp_model.specs.declared.choice.Choice.{Choice}
use Rattle.fapp_model.specs.declared.instance.Instance.{Instance}
use Rattle.fapp_model.specs.declared.limits.TheConstants.{S_SPAN}
use Rattle.fapp_model.specs.declared.literal.Literal.{Literal}
use Rattle.fapp_model.specs.declared.record.Record.{Record}
use Rattle.fapp_model.specs.Instances.{IsInstance}
use Rattle.fapp_model.specs.Records.{first_path, is_bad, second_path}
use Rattle.fapp_model.specs.search.Clashes.{clashes, joins}
use Rattle.fapp_model.specs.search.Partials.{IsPartial, choice_of, literal, names}
use Rattle.fapp_model.specs.search.Weights.{added, bad_further, between, inside}
use Rattle.fapp_model.proofs.Anys.{none-member}
use Rattle.fapp_model.proofs.Sums.{range-sum-most, sum_by-add, sum_by-le-members, sum_by-same-members, sum_by-swap}
use Rattle.fapp_tables.specs.Measures.{both_between, coded_part}
use Rattle.choice_counts.specs.declared.rows.TheConstants.{HARD}
use Rattle.choice_counts.specs.Counts.{clash_pairs, clash_part, hard_of, outside_part, outsiders, tally_of}
use Rattle.choice_counts.proofs.Clash.{any_zero, flag, flag_most, itself_none}
use Rattle.choice_counts.proofs.OneMore.{added_more, inside_more, one_pushed}
use Rattle.choice_counts.proofs.OpenSums.{range_sum_more}
use Rattle.fapp_model.specs.declared.level.TheConstants.{MAX_LEVELS, MOST_FURTHER}

-- ---- no two literals of one path

abbrev pub at_path : ℕ → ℕ → Literal → ℕ
at_path most path a = cond (eqb a.path path) most 0

pub once : (most path : ℕ) (literals : List Literal) → AreDistinct literals → sum_by (at_path most path) literals ≤ most
once most path [] distinct = omega arith
once most path (a ∷ literals) distinct =
    elim (cases_eq a.path path) [
      | inl same ↦
          let here : at_path most path a ≡ most = ap (λ b. cond b most 0) (eq-eqb a.path path same) in
          let free : names literals path ≡ false = subst (λ p. names literals p ≡ false) same (head-not-named a literals distinct) in
          let rest = any_zero (at_path most path) (λ (b : Literal). eqb b.path path) (λ b e. ap (λ t. cond t most 0) e) literals free in
          omega (arith, here, rest, sum_by-cons (at_path most path) a literals)
      | inr other ↦
          let here : at_path most path a ≡ 0 = ap (λ b. cond b most 0) (ne_eqb a.path path other) in
          omega (arith, here, once most path literals (distinct-tail a literals distinct), sum_by-cons (at_path most path) a literals)
    ]

pub distinct_push : (literals : List Literal) (a : Literal) → AreDistinct literals → names literals a.path ≡ false → AreDistinct (literals ++ a ∷ [])
distinct_push literals a distinct free = all_pairs_push (λ (x y : Literal). x.path ≢ y.path) literals a distinct (λ k d inside same.
    let on = at-names literals (get_or literals k d) (Contains-get_or literals k d inside) in
    let off : names literals (get_or literals k d).path ≡ false = ap (names literals) same ∙ free in
    let bad : true ≡ false = sym on ∙ off in cc)

pub names_push : (literals : List Literal) (a : Literal) (path : ℕ) → names (literals ++ a ∷ []) path ≡ (names literals path || eqb a.path path)
names_push literals a path = list_any-append (λ (b : Literal). eqb b.path path) literals (a ∷ []) ∙ ap (λ t. names literals path || t) (or_none (eqb a.path path))
  where
    or_none : (x : Bool) → (x || false) ≡ x
    or_none true = refl
    or_none false = refl

pub few_literals : (instance : Instance) (literals : List Literal) → IsPartial instance literals → length literals ≤ length instance.paths
few_literals instance literals partial =
    let named = range-named (λ p. 1) (length instance.paths) literals partial.distinct (λ k d inside. (partial.in_range k d inside).path) in
    let most = range-sum-most (λ p. cond (names literals p) 1 0) (length instance.paths) 1 (λ p below. flag_most (names literals p)) in
    omega (arith, named, most, ones literals)
  where
    ones : (xs : List Literal) → sum_by (λ (a : Literal). 1) xs ≡ length xs
    ones [] = refl
    ones (x ∷ xs) = omega (arith, ones xs, sum_by-cons (λ (a : Literal). 1) x xs)

-- ---- one record, whichever literals it joins

module _ (measure : Record → Choice → Choice → ℕ) (most : ℕ) (small : (r : Record) (x y : Choice) → measure r x y ≤ most) where
  guarded : (b : Bool) (n : ℕ) → n ≤ most → cond b n 0 ≤ most
  guarded true n h = h
  guarded false n h = omega arith

  joined_first : (p q : ℕ) (r : Record) (x y : Choice) → (a : Literal) → cond (joins p a.path r) (measure r x y) 0 ≤ at_path most (second_path r) a
  joined_first p q r x y a = elim (cases_eq a.path (second_path r)) [
    | inl same ↦ omega (arith, guarded (joins p a.path r) (measure r x y) (small r x y), ap (λ b. cond b most 0) (eq-eqb a.path (second_path r) same))
    | inr other ↦
        let apart : joins p a.path r ≡ false = and_right (eqb (first_path r) p) (eqb (second_path r) a.path) (ne_eqb _ _ (λ e. other (sym e))) in
        omega (arith, ap (λ b. cond b (measure r x y) 0) apart)
  ]

  joined_second : (p : ℕ) (r : Record) (x y : Choice) → (a : Literal) → cond (joins a.path p r) (measure r x y) 0 ≤ at_path most (first_path r) a
  joined_second p r x y a = elim (cases_eq a.path (first_path r)) [
    | inl same ↦ omega (arith, guarded (joins a.path p r) (measure r x y) (small r x y), ap (λ b. cond b most 0) (eq-eqb a.path (first_path r) same))
    | inr other ↦
        let apart : joins a.path p r ≡ false = and_left (eqb (first_path r) a.path) (eqb (second_path r) p) (ne_eqb _ _ (λ e. other (sym e))) in
        omega (arith, ap (λ b. cond b (measure r x y) 0) apart)
  ]

  abbrev term : Instance → Literal → Record → Literal → ℕ
  term instance a r b = cond (joins a.path b.path r) (measure r (choice_of instance a) (choice_of instance b)) 0 + cond (joins b.path a.path r) (measure r (choice_of instance b) (choice_of instance a)) 0

  module _ (instance : Instance) (a : Literal) (r : Record) (different : first_path r ≡ second_path r → ⊥) where
    term_first : first_path r ≡ a.path → (b : Literal) → term instance a r b ≤ at_path most (second_path r) b
    term_first e b =
        let none : joins b.path a.path r ≡ false = and_right (eqb (first_path r) b.path) (eqb (second_path r) a.path) (ne_eqb _ _ (λ s. different (e ∙ sym s))) in
        omega (arith, joined_first a.path a.path r (choice_of instance a) (choice_of instance b) b, ap (λ t. cond t (measure r (choice_of instance b) (choice_of instance a)) 0) none)

    term_second : (first_path r ≡ a.path → ⊥) → (b : Literal) → term instance a r b ≤ at_path most (first_path r) b
    term_second e b =
        let none : joins a.path b.path r ≡ false = and_left (eqb (first_path r) a.path) (eqb (second_path r) b.path) (ne_eqb _ _ e) in
        omega (arith, joined_second a.path r (choice_of instance b) (choice_of instance a) b, ap (λ t. cond t (measure r (choice_of instance a) (choice_of instance b)) 0) none)

    record_once : (literals : List Literal) → AreDistinct literals → sum_by (term instance a r) literals ≤ most
    record_once literals distinct = elim (cases_eq (first_path r) a.path) [
      | inl e ↦ omega (arith, once most (second_path r) literals distinct, sum_by-le-members (term instance a r) (at_path most (second_path r)) literals (λ k d _. term_first e (get_or literals k d)))
      | inr e ↦ omega (arith, once most (first_path r) literals distinct, sum_by-le-members (term instance a r) (at_path most (first_path r)) literals (λ k d _. term_second e (get_or literals k d)))
    ]

  -- what a choice adds against the literals
  pub added_most : (instance : Instance) → IsInstance instance → (literals : List Literal) → AreDistinct literals → (a : Literal) → added instance measure literals a ≤ length instance.records * most
  added_most instance valid literals distinct a =
      let part : Literal → Record → ℕ = λ b r. term instance a r b in
      let each : (b : Literal) → both_between instance measure a b ≡ sum_by (part b) instance.records = λ b. both_sum instance a b in
      let outer = sum_by-same-members (both_between instance measure a) (λ b. sum_by (part b) instance.records) literals (λ k d _. each (get_or literals k d)) in
      let swap = sum_by-swap part literals instance.records in
      let bound = sum_by-le (λ r. sum_by (λ b. part b r) literals) most instance.records (λ k d inside. record_once instance a (get_or instance.records k d) (valid.records k d inside).different literals distinct) in
      omega (arith, outer, swap, bound)
    where
      both_sum : (instance : Instance) (a b : Literal) → both_between instance measure a b ≡ sum_by (λ r. term instance a r b) instance.records
      both_sum instance a b = sym (sum_by-add (λ r. cond (joins a.path b.path r) (measure r (choice_of instance a) (choice_of instance b)) 0) (λ r. cond (joins b.path a.path r) (measure r (choice_of instance b) (choice_of instance a)) 0) instance.records)

  module _ (instance : Instance) where
    abbrev pair : Record → Literal → Literal → ℕ
    pair r a b = cond (joins a.path b.path r) (measure r (choice_of instance a) (choice_of instance b)) 0

    row_first : (r : Record) (literals : List Literal) → AreDistinct literals → (a : Literal) → sum_by (pair r a) literals ≤ at_path most (first_path r) a
    row_first r literals distinct a = elim (cases_eq a.path (first_path r)) [
      | inl same ↦
          let bound = sum_by-le-members (pair r a) (at_path most (second_path r)) literals (λ k d _. joined_first a.path a.path r (choice_of instance a) (choice_of instance (get_or literals k d)) (get_or literals k d)) in
          omega (arith, bound, once most (second_path r) literals distinct, ap (λ t. cond t most 0) (eq-eqb a.path (first_path r) same))
      | inr other ↦
          let none = sum_by-le (pair r a) 0 literals (λ k d _.
          let b = get_or literals k d in
          omega (arith, ap (λ t. cond t (measure r (choice_of instance a) (choice_of instance b)) 0) (and_left (eqb (first_path r) a.path) (eqb (second_path r) b.path) (ne_eqb _ _ (λ e. other (sym e)))))) in
          omega (arith, none)
    ]

    -- what the literals come to among themselves
    pub inside_total : (literals : List Literal) → AreDistinct literals → inside instance measure literals ≤ length instance.records * most
    inside_total literals distinct =
        let part : Literal → Record → ℕ = λ a r. sum_by (pair r a) literals in
        let each : (a : Literal) → sum_by (λ b. between instance measure a b) literals ≡ sum_by (part a) instance.records = λ a. sum_by-swap (λ b r. pair r a b) literals instance.records in
        let outer = sum_by-same-members (λ a. sum_by (λ b. between instance measure a b) literals) (λ a. sum_by (part a) instance.records) literals (λ k d _. each (get_or literals k d)) in
        let swap = sum_by-swap part literals instance.records in
        let bound = sum_by-le (λ r. sum_by (λ a. part a r) literals) most instance.records (λ k d _.
        let r = get_or instance.records k d in
        let rows = sum_by-le-members (λ a. part a r) (at_path most (first_path r)) literals (λ j e _. row_first r literals distinct (get_or literals j e)) in
        omega (arith, rows, once most (first_path r) literals distinct)) in
        omega (arith, outer, swap, bound)

    -- ---- what one choice of each further path adds, path by path

    abbrev pub open_part : List Literal → (ℕ → ℕ) → ℕ → ℕ
    open_part literals choose path = cond (names literals path) 0 (added instance measure literals (literal path (choose path)))

    record Filled (literals filled : List Literal) (choose : ℕ → ℕ) (n : ℕ) : Type 0 where
      distinct : AreDistinct filled
      waits : (path : ℕ) → n ≤ path → names filled path ≡ names literals path
      grown : (a : Literal) → added instance measure literals a ≤ added instance measure filled a
      total : inside instance measure literals + sum_by (open_part literals choose) (range_with_len 0 n) ≤ inside instance measure filled

    fill_one : IsInstance instance → (literals filled : List Literal) (choose : ℕ → ℕ) (n : ℕ) → Filled literals filled choose n → (b : Bool) → names literals n ≡ b →
        (more : List Literal) × Filled literals more choose (suc n)
    fill_one valid literals filled choose n f true e = (
      filled,
      record {
        distinct = f.distinct;
        waits = λ path above. f.waits path (omega arith);
        grown = f.grown;
        total =
            let none : open_part literals choose n ≡ 0 = ap (λ t. cond t 0 (added instance measure literals (literal n (choose n)))) e in
            omega (arith, f.total, range_sum_more (open_part literals choose) n);
      },
    )
    fill_one valid literals filled choose n f false e =
        let now = literal n (choose n) in
        let free : names filled n ≡ false = f.waits n (omega arith) ∙ e in (
          filled ++ now ∷ [],
          record {
            distinct = distinct_push filled now f.distinct free;
            waits = λ path above.
                let apart : eqb n path ≡ false = ne_eqb n path (λ same. absurd (omega arith)) in
                names_push filled now path ∙ (ap (λ t. names filled path || t) apart ∙ (or_none (names filled path) ∙ f.waits path (omega arith)));
            grown = λ a. omega (arith, f.grown a, added_more instance filled (filled ++ now ∷ []) now (one_pushed filled now) measure a);
            total =
                let some : open_part literals choose n ≡ added instance measure literals now = ap (λ t. cond t 0 (added instance measure literals now)) e in
                let more = inside_more instance filled (filled ++ now ∷ []) now (one_pushed filled now) valid measure in
                omega (arith, f.total, range_sum_more (open_part literals choose) n, f.grown now);
          },
        )
      where
        or_none : (x : Bool) → (x || false) ≡ x
        or_none true = refl
        or_none false = refl

    fill : IsInstance instance → (literals : List Literal) → AreDistinct literals → (choose : ℕ → ℕ) (n : ℕ) → (filled : List Literal) × Filled literals filled choose n
    fill valid literals distinct choose zero = (literals, record { distinct = distinct; waits = λ path above. refl; grown = λ a. omega arith; total = omega arith })
    fill valid literals distinct choose (suc n) =
        let before = fill valid literals distinct choose n in
        fill_one valid literals before.0 choose n before.1 (names literals n) refl

    -- the literals and one choice of each further path
    pub total_most : IsInstance instance → (literals : List Literal) → AreDistinct literals → (choose : ℕ → ℕ) (n : ℕ) → inside instance measure literals + sum_by (open_part literals choose) (range_with_len 0 n) ≤ length instance.records * most
    total_most valid literals distinct choose n =
        let filled = fill valid literals distinct choose n in
        omega (arith, filled.1.total, inside_total filled.0 filled.1.distinct)

-- ---- the measures

one_most : (b : Bool) → cond b 1 0 ≤ 1
one_most true = omega arith
one_most false = omega arith

pub coded_most : (level : ℕ) → level ≤ MAX_LEVELS → (r : Record) (x y : Choice) → coded_part level r x y ≤ S_SPAN + MOST_FURTHER
coded_most level within r x y =
    let before = one_most (is_bad (level - 1) r x y) in
    let further = count_by-le-length (λ m. is_bad m r x y) (range_with_len 0 (level - 1)) in
    omega (arith, length-range_with_len 0 (level - 1))

pub further_most : (level : ℕ) → level ≤ MAX_LEVELS → (r : Record) (x y : Choice) → bad_further level r x y ≤ MOST_FURTHER
further_most level within r x y = omega (arith, count_by-le-length (λ m. is_bad m r x y) (range_with_len 0 (level - 1)), length-range_with_len 0 (level - 1))

outside_most : (b : Bool) → cond b 0 1 ≤ 1
outside_most true = omega arith
outside_most false = omega arith

module _ (instance : Instance) (valid : IsInstance instance) (level : ℕ) (within : level ≤ MAX_LEVELS) where
  -- what a choice adds is below what a clash counts
  pub sum_small : (literals : List Literal) → AreDistinct literals → (a : Literal) → added instance (coded_part level) literals a < HARD
  sum_small literals distinct a =
      let most = added_most (coded_part level) (S_SPAN + MOST_FURTHER) (coded_most level within) instance valid literals distinct a in
      omega (arith, most, valid.few_records)

  pub further_small : (literals : List Literal) → AreDistinct literals → (a : Literal) → added instance (bad_further level) literals a < S_SPAN
  further_small literals distinct a =
      let most = added_most (bad_further level) 10 (further_most level within) instance valid literals distinct a in
      omega (arith, most, valid.few_records)

  pub inside_small : (literals : List Literal) → AreDistinct literals → inside instance (coded_part level) literals < HARD
  inside_small literals distinct =
      let most = inside_total (coded_part level) (S_SPAN + MOST_FURTHER) (coded_most level within) instance literals distinct in
      omega (arith, most, valid.few_records)

  clash_most : (literals : List Literal) (a : Literal) → sum_by (clash_part instance level a) literals ≤ length literals * 1
  clash_most literals a = sum_by-le (clash_part instance level a) 1 literals (λ k d _. one_most (clashes instance level a (get_or literals k d)))

  pub hard_few : (arc : Literal → Bool) (literals : List Literal) → IsPartial instance literals → (a : Literal) → hard_of instance level arc literals a ≤ 8193
  hard_few arc literals partial a = omega (arith, clash_most literals a, outside_most (arc a), few_literals instance literals partial, valid.few_paths)

  pub tally_small : (arc : Literal → Bool) (literals : List Literal) → IsPartial instance literals → (a : Literal) → tally_of instance level arc literals a < 2 ^ 62
  tally_small arc literals partial a = omega (arith, hard_few arc literals partial a, sum_small literals partial.distinct a)

  pub conflicts_few : (arc : Literal → Bool) (literals : List Literal) → IsPartial instance literals → clash_pairs instance level literals + outsiders arc literals * 2 ≤ 8192 * 8194
  conflicts_few arc literals partial =
      let few : length literals ≤ 8192 = omega (arith, few_literals instance literals partial, valid.few_paths) in
      let pairs = sum_by-le (λ a. sum_by (clash_part instance level a) literals) 8192 literals (λ k d _. omega (arith, clash_most literals (get_or literals k d))) in
      let outside = sum_by-le (outside_part arc) 1 literals (λ k d _. outside_most (arc (get_or literals k d))) in
      omega (arith, few, pairs, outside)
