-- The places of paths, in order, give the work order.
use Rattle.std.proofs.Common.{◌≡◌, ◌≢◌, ℕ, ◌+◌, ◌-◌, ◌*◌, ◌<◌, ◌≤◌, true, ◌||◌, ◌&&◌, eqb, ltb, List, [], ◌∷◌, ◌++◌, length, map, get_or, zero-add, refl, sym, ap, ◌∙◌, subst, inl, inr, AllPairs, Contains, IsTrue, arith}
use Rattle.std.specs.List.{range_with_len, AllAdjacentBelow}
use Rattle.std.specs.List.Sorted.{IsPermutation}
use Rattle.std.proofs.lemmas.Bool.{cases_order, eq-eqb, lt-ltb, and_from, or_right}
use Rattle.std.proofs.lemmas.List.{get_or_read}
use Rattle.std.proofs.lemmas.List.Elements.{All-map, Contains-get_or}
use Rattle.std.proofs.lemmas.List.FromFn.{length-map-range_with_len, get_or-map-range_with_len, map-range_with_len_more, length-range_with_len, get_or-range_with_len}
use Rattle.std.proofs.lemmas.List.Sorted.{Contains-permutation, IsPermutation-sym, IsNonDecreasingBy-from_all_adjacent}
use Rattle.std.proofs.lemmas.List.Sums.{count_by-le-length}
use Rattle.fapp_model.specs.declared.instance.Instance.{Instance}
use Rattle.fapp_model.specs.declared.limits.TheConstants.{MAX_RECORDS}
use Rattle.fapp_model.specs.Instances.{IsInstance}
use Rattle.fapp_model.specs.search.WorkOrder.{IsWorkOrder, comes_before, degree, names_path}
use Rattle.fapp_model.proofs.Members.{All-from_members, in-map, from-map, in-range, from-range}
use Rattle.fapp_model.proofs.InOrder.{pairs-map}
use Rattle.fapp_tables.specs.declared.order.Place.{Place}
use Rattle.fapp_tables.specs.PathDegrees.{IsPlannedBefore, place_of}
use Rattle.fapp_tables.proofs.RankLaws.{rising_ranks}

-- the place of one more path
pub places_more : (instance : Instance) (path n : ℕ) (counts : List ℕ) (x : ℕ) (places more : List Place) → counts ≡ map (degree instance) (range_with_len 0 n) → path < n →
    x ≡ get_or counts path x → places ≡ map (place_of instance) (range_with_len 0 path) → more ≡ places ++ record { degree = record { 0 = x }; path = path } ∷ [] →
    more ≡ map (place_of instance) (range_with_len 0 (path + 1))
places_more instance path n counts x places more is inside at so_far pushed =
    let within : path < length counts = omega (arith, ap length is, length-map-range_with_len (degree instance) 0 n) in
    let known : x ≡ degree instance path =
    get_or_read counts path x within at 0 ∙ (ap (λ xs. get_or xs path 0) is ∙ get_or-map-range_with_len (degree instance) 0 n path path 0 inside (zero-add path)) in
    pushed ∙ (ap (λ n. places ++ record { degree = record { 0 = n }; path = path } ∷ []) known
    ∙ (ap (λ (xs : List Place). xs ++ place_of instance path ∷ []) so_far
    ∙ sym (map-range_with_len_more (place_of instance) 0 path path (zero-add path))))

-- a place as one number: the less, the earlier
abbrev rank : Place → ℕ
rank p = (MAX_RECORDS - p.degree.0) * 65536 + p.path

rank_at_most : (a b : Place) → a.degree.0 ≤ MAX_RECORDS → b.degree.0 ≤ MAX_RECORDS → a.path < 65536 → b.path < 65536 → IsPlannedBefore a b → rank a ≤ rank b
rank_at_most a b da db pa pb (inl less) = omega arith
rank_at_most a b da db pa pb (inr (same, most)) = omega arith

earlier : (da db a b : ℕ) → da ≤ MAX_RECORDS → db ≤ MAX_RECORDS → a < 65536 → b < 65536 → (MAX_RECORDS - da) * 65536 + a < (MAX_RECORDS - db) * 65536 + b → (ltb db da || (eqb da db && ltb a b)) ≡ true
earlier da db a b la lb pa pb less = elim (cases_order da db) [
  | inl same ↦
      let above : ltb a b ≡ true = lt-ltb a b (omega (arith, less, same)) in
      let both = and_from (eqb da db) (ltb a b) (eq-eqb da db same) above in
      or_right (ltb db da) (eqb da db && ltb a b) both
  | inr (inl below) ↦ absurd (omega arith)
  | inr (inr above) ↦ rw (lt-ltb db da above) refl
]

-- places in order give the work order
module _ (instance : Instance) (valid : IsInstance instance) (places sorted : List Place) (is : places ≡ map (place_of instance) (range_with_len 0 (length instance.paths)))
    (moved : IsPermutation places sorted) (ordered : AllAdjacentBelow IsPlannedBefore sorted (length sorted)) where
  record IsPlace (p : Place) : Type 0 where
    inside : p.path < length instance.paths
    known : p ≡ place_of instance p.path

  is_place : (p : Place) → Contains sorted p → IsPlace p
  is_place p m =
      let found = from-map (place_of instance) (range_with_len 0 (length instance.paths)) p (subst (λ xs. Contains xs p) is (Contains-permutation sorted places p (IsPermutation-sym places sorted moved) m)) in
      subst IsPlace found.2 (record { inside = from-range (length instance.paths) found.0 found.1; known = refl })

  few : (p : Place) → IsPlace p → p.degree.0 ≤ MAX_RECORDS
  few p h = omega (arith, ap (λ (q : Place). q.degree.0) h.known, count_by-le-length (names_path p.path) instance.records, valid.few_records)

  low : (p : Place) → IsPlace p → p.path < 65536
  low p h = omega (arith, h.inside, valid.few_paths)

  apart : AllPairs (λ a b. rank a ≢ rank b) places
  apart = subst (AllPairs (λ a b. rank a ≢ rank b)) (sym is) (pairs-map (λ a b. rank a ≢ rank b) (place_of instance) (range_with_len 0 (length instance.paths)) (λ i j d before inside e.
      let n = length instance.paths in
      let long = length-range_with_len 0 n in
      let few = valid.few_paths in
      omega (arith, e, get_or-range_with_len 0 n i d (omega arith), get_or-range_with_len 0 n j d (omega arith))))

  rises : AllPairs (λ a b. rank a < rank b) sorted
  rises = rising_ranks rank places sorted apart moved (IsNonDecreasingBy-from_all_adjacent rank sorted (λ k d inside.
      let a = get_or sorted k d in
      let b = get_or sorted (k + 1) d in
      let at_a = is_place a (Contains-get_or sorted k d (omega arith)) in
      let at_b = is_place b (Contains-get_or sorted (k + 1) d inside) in
      rank_at_most a b (few a at_a) (few b at_b) (low a at_a) (low b at_b) (ordered k d inside)))

  pub order_of_places : IsWorkOrder instance (map (λ (p : Place). p.path) sorted)
  order_of_places = record {
    in_range = All-map (λ path. path < length instance.paths) (λ (p : Place). p.path) sorted (All-from_members (λ p. p.path < length instance.paths) sorted (λ p m. (is_place p m).inside));
    whole = λ path inside. in-map (λ (p : Place). p.path) sorted (place_of instance path)
        (Contains-permutation places sorted (place_of instance path) moved (subst (λ xs. Contains xs (place_of instance path)) (sym is)
        (in-map (place_of instance) (range_with_len 0 (length instance.paths)) path (in-range (length instance.paths) path inside))));
    ordered = pairs-map (λ a b. IsTrue (comes_before instance a b)) (λ (p : Place). p.path) sorted (λ i j d before inside.
        let a = get_or sorted i d in
        let b = get_or sorted j d in
        let at_a = is_place a (Contains-get_or sorted i d (omega arith)) in
        let at_b = is_place b (Contains-get_or sorted j d inside) in
        let less : rank a < rank b = rises i j d before inside in
        let same_a = ap (λ (q : Place). q.degree.0) at_a.known in
        let same_b = ap (λ (q : Place). q.degree.0) at_b.known in
        earlier (degree instance a.path) (degree instance b.path) a.path b.path (omega (arith, few a at_a, same_a)) (omega (arith, few b at_b, same_b)) (low a at_a) (low b at_b)
        (omega (arith, less, same_a, same_b)));
  }
