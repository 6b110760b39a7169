-- Where the parts of the flat lists stand, by what their starts are read as.
use Rattle.std.proofs.Common.{◌≡◌, ℕ, ◌+◌, ◌<◌, ◌≤◌, false, List, [], length, get_or, slice_index, Err, ap, sym, ◌∙◌, subst, inl, inr, Contains, arith}
use Rattle.std.specs.List.{range_with_len}
use Rattle.std.specs.List.Sorted.{IsBinarySearchResult}
use Rattle.std.specs.Ordering.{nat_cmp}
use Rattle.std.proofs.lemmas.Bool.{cases_lt, cases_Bool}
use Rattle.std.proofs.lemmas.List.{get_or_default, get_or_read}
use Rattle.std.proofs.lemmas.List.Elements.{Contains-get_or}
use Rattle.std.proofs.lemmas.List.Kept.{AllPairs-filter}
use Rattle.std.proofs.lemmas.List.Sorted.{searched}
use Rattle.fapp_model.specs.declared.instance.Instance.{Instance}
use Rattle.fapp_model.specs.search.Clashes.{shares_record}
use Rattle.fapp_model.proofs.Anys.{none-member}
use Rattle.fapp_model.proofs.Members.{All-range, in-filter, in-range}
use Rattle.fapp_model.proofs.InOrder.{rising}
use Rattle.fapp_tables.specs.Indexes.{neighbours_of, records_of, record_at, no_record, touches}
use Rattle.fapp_tables.proofs.FilterLaws.{filter-none}
use Rattle.fapp_tables.specs.Parts.{AreIndexes, HasSlice}

-- the records of a neighbour's place, where its path's start was read
pub run_at : (kept instance : Instance) (starts neighbours firsts positions : List ℕ) (path place start : ℕ) → kept ≡ instance → AreIndexes kept starts neighbours firsts positions →
    path < length instance.paths → place < length (neighbours_of instance path) → start ≡ get_or starts path start →
    HasSlice firsts positions (start + place) (records_of instance path (slice_index (neighbours_of instance path) place))
run_at kept instance starts neighbours firsts positions path place start same indexed in_path in_place read =
    let own = subst (λ i. AreIndexes i starts neighbours firsts positions) same indexed in
    let near = own.neighbours_at path in_path in
    let is : start ≡ slice_index starts path = get_or_read starts path start (omega (arith, near.inside)) read 0 in
    subst (λ s. HasSlice firsts positions (s + place) (records_of instance path (slice_index (neighbours_of instance path) place))) (sym is) (own.records_at path place in_path in_place)

up_to : (instance : Instance) (i x y : ℕ) → x ≤ y → y < length (neighbours_of instance i) → get_or (neighbours_of instance i) x 0 ≤ get_or (neighbours_of instance i) y 0
up_to instance i x y most inside = elim (cases_lt x y) [
  | inl less ↦
      let up = AllPairs-filter (λ a b. a < b) (shares_record instance i) (range_with_len 0 (length instance.paths)) (rising 0 (length instance.paths)) x y 0 less inside in
      omega (arith, up)
  | inr more ↦ let same : x ≡ y = omega arith in omega (arith, ap (λ k. get_or (neighbours_of instance i) k 0) same)
]

-- a path that isn't found among the neighbours shares no record
pub none_found : (instance : Instance) (i j : ℕ) (near : List ℕ) (k : ℕ) → near ≡ neighbours_of instance i → j < length instance.paths →
    IsBinarySearchResult (λ y. nat_cmp y j) near (Err k) → [] ≡ records_of instance i j
none_found instance i j near k is inside result =
    sym (filter-none (λ p. touches i j (record_at instance p)) (range_with_len 0 (length instance.records))
    (All-range (λ p. touches i j (record_at instance p) ≡ false) (length instance.records)
    (λ p within. none-member (touches i j) instance.records apart (record_at instance p) (Contains-get_or instance.records p no_record within))))
  where
    ups : (x y : ℕ) → x ≤ y → y < length near → get_or near x 0 ≤ get_or near y 0
    ups = subst (λ (xs : List ℕ). (x y : ℕ) → x ≤ y → y < length xs → get_or xs x 0 ≤ get_or xs y 0) (sym is) (up_to instance i)

    apart : shares_record instance i j ≡ false
    apart = elim (cases_Bool (shares_record instance i j)) [
      | inl share ↦
          let m = in-filter (shares_record instance i) (range_with_len 0 (length instance.paths)) j (in-range (length instance.paths) j inside) share in
          let here = subst (λ (xs : List ℕ). Contains xs j) (sym is) m in
          let at = get_or_default near here.0 0 j here.1 ∙ here.2 in
          let place = searched near j (Err k) result ups in
          absurd (elim (cases_lt here.0 k) [
            | inl below ↦ omega (arith, at, place.1 here.0 below)
            | inr above ↦ omega (arith, at, place.2 here.0 above here.1)
          ])
      | inr none ↦ none
    ]
