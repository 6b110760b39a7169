-- The flat lists hold the neighbours of each path, and the records of each path and neighbour.
use Rattle.std.proofs.Common.{◌≡◌, ℕ, ◌+◌, ◌-◌, ◌*◌, ◌<◌, ◌≤◌, Bool, true, eqb, List, [], ◌∷◌, ◌++◌, length, get_or, map, filter, take, drop, refl, sym, ap, ◌∙◌, subst, inl, inr, AllPairs, Contains, slice_index, arith}
use Rattle.std.specs.List.{range_with_len, slice_range}
use Rattle.std.proofs.lemmas.Bool.{cases_lt, eqb-true, eq-eqb, ne_eqb}
use Rattle.std.proofs.lemmas.List.{get_or_default, get_or-map, length-map, length-take, length-drop, get_or-take, get_or-drop, take-map, drop-map}
use Rattle.std.proofs.lemmas.List.Elements.{Contains-get_or}
use Rattle.std.proofs.lemmas.List.Kept.{AllPairs-filter}
use Rattle.std.proofs.lemmas.List.FromFn.{length-range_with_len}
use Rattle.std.proofs.lemmas.List.Sums.{length-filter, count_by-le-length}
use Rattle.std.specs.List.Sorted.{IsNonDecreasingBy}
use Rattle.fapp_model.specs.declared.instance.Instance.{Instance}
use Rattle.fapp_model.specs.Instances.{IsInstance}
use Rattle.fapp_model.specs.search.Clashes.{shares_record}
use Rattle.fapp_model.proofs.Anys.{any-member, passing}
use Rattle.fapp_model.proofs.Members.{in-filter, from-filter, in-map, from-map, in-range, from-range}
use Rattle.fapp_model.proofs.InOrder.{pairs-map, same_members, rising}
use Rattle.fapp_tables.specs.declared.links.Side.{Side}
use Rattle.fapp_tables.specs.Indexes.{neighbours_of, records_of, record_at, no_record, touches}
use Rattle.fapp_tables.specs.Links.{AreSortedLinks, IsSide, link_rank, pair_rank}
use Rattle.fapp_tables.specs.Parts.{AreIndexes, HasSlice}
use Rattle.fapp_tables.specs.Runs.{IsStart, begins_run, side_at, no_side, run_places}
use Rattle.fapp_tables.proofs.FilterLaws.{filter_run}
use Rattle.fapp_tables.proofs.LinkLaws.{names_two}
use Rattle.fapp_tables.proofs.RunLaws.{IsSmall, first_is, first-up, before_run, run_is, of_run, length-firsts, next_within}

abbrev Rises : List ℕ → Type 0
Rises xs = AllPairs (λ a b. a < b) xs

-- rising lists with the same members are one
one_rising : (xs ys : List ℕ) → Rises xs → Rises ys → ((z : ℕ) → Contains xs z → Contains ys z) → ((z : ℕ) → Contains ys z → Contains xs z) → xs ≡ ys
one_rising = same_members (λ a b. a < b) (λ a b l m. absurd (omega arith))

-- a part of a mapped list
map-range : {X Y : Type 0} (f : X → Y) (xs : List X) (a b : ℕ) → slice_range (map f xs) a b ≡ map f (slice_range xs a b)
map-range f xs a b = ap (take (b - a)) (drop-map f a xs) ∙ take-map f (b - a) (drop a xs)

get_or-range : {X : Type 0} (xs : List X) (a b k : ℕ) (d : X) → k < b - a → get_or (slice_range xs a b) k d ≡ get_or xs (a + k) d
get_or-range xs a b k d inside = get_or-take (b - a) (drop a xs) k d inside ∙ get_or-drop a xs k d

length-range : {X : Type 0} (xs : List X) (a b : ℕ) → a ≤ b → b ≤ length xs → length (slice_range xs a b) ≡ b - a
length-range xs a b forward within = omega (arith, length-take (b - a) (drop a xs), length-drop a xs)

same_pair : (a : Side) (path other : ℕ) → a.other < 65536 → other < 65536 → pair_rank a ≡ path * 65536 + other → (a.path ≡ path) × (a.other ≡ other)
same_pair a path other la lb same = (omega (arith, same), omega (arith, same))

module _ (instance : Instance) (valid : IsInstance instance) (links : List Side) (sorted : AreSortedLinks instance links) where
  is_link : (a : Side) → Contains links a → IsSide instance a
  is_link a m = (sorted.members a).0 m

  pub small_link : (a : Side) → Contains links a → IsSmall a
  small_link a m =
      let h = is_link a m in
      let two = names_two instance a valid h in
      record { other = omega (arith, two.other, valid.few_paths); position = omega (arith, h.inside, valid.few_records) }

  pub small_at : (k : ℕ) → k < length links → IsSmall (side_at links k)
  small_at k inside = small_link (side_at links k) (Contains-get_or links k no_side inside)

  -- the links of one pair
  abbrev of_pair : ℕ → List Side
  of_pair pair = filter (λ a. eqb (pair_rank a) pair) links

  pub records_are : (path other : ℕ) → other < 65536 → map (λ (a : Side). a.position) (of_pair (path * 65536 + other)) ≡ records_of instance path other
  records_are path other low = one_rising (map (λ (a : Side). a.position) (of_pair (path * 65536 + other))) (records_of instance path other) ups
      (AllPairs-filter (λ a b. a < b) (λ k. touches path other (record_at instance k)) (range_with_len 0 (length instance.records)) (rising 0 (length instance.records)))
      into from
    where
      ups : Rises (map (λ (a : Side). a.position) (of_pair (path * 65536 + other)))
      ups = pairs-map (λ a b. a < b) (λ (a : Side). a.position) (of_pair (path * 65536 + other)) (λ i j d before inside.
          let test : Side → Bool = λ a. eqb (pair_rank a) (path * 65536 + other) in
          let up = AllPairs-filter (λ a b. link_rank a < link_rank b) test links sorted.rising i j d before inside in
          let at_i = (from-filter test links (get_or (of_pair (path * 65536 + other)) i d) (Contains-get_or (of_pair (path * 65536 + other)) i d (omega arith))).1 in
          let at_j = (from-filter test links (get_or (of_pair (path * 65536 + other)) j d) (Contains-get_or (of_pair (path * 65536 + other)) j d inside)).1 in
          omega (arith, up, eqb-true _ _ at_i, eqb-true _ _ at_j))

      into : (z : ℕ) → Contains (map (λ (a : Side). a.position) (of_pair (path * 65536 + other))) z → Contains (records_of instance path other) z
      into z m =
          let f = from-map (λ (a : Side). a.position) (of_pair (path * 65536 + other)) z m in
          let a = f.0 in
          let g = from-filter (λ (a : Side). eqb (pair_rank a) (path * 65536 + other)) links a f.1 in
          let h = is_link a g.0 in
          let tiny = small_link a g.0 in
          let at = same_pair a path other tiny.other low (eqb-true _ _ g.1) in
          subst (λ k. Contains (records_of instance path other) k) f.2
          (in-filter (λ k. touches path other (record_at instance k)) (range_with_len 0 (length instance.records)) a.position (in-range (length instance.records) a.position h.inside)
          (subst (λ q. touches path q (record_at instance a.position) ≡ true) at.1 (subst (λ p. touches p a.other (record_at instance a.position) ≡ true) at.0 h.touching)))

      from : (z : ℕ) → Contains (records_of instance path other) z → Contains (map (λ (a : Side). a.position) (of_pair (path * 65536 + other))) z
      from z m =
          let f = from-filter (λ k. touches path other (record_at instance k)) (range_with_len 0 (length instance.records)) z m in
          let a : Side = record { path = path; other = other; position = z } in
          let here : Contains links a = (sorted.members a).1 (record { inside = from-range (length instance.records) z f.0; touching = f.1 }) in
          in-map (λ (a : Side). a.position) (of_pair (path * 65536 + other)) a
          (in-filter (λ (a : Side). eqb (pair_rank a) (path * 65536 + other)) links a here (eq-eqb (path * 65536 + other) (path * 65536 + other) refl))

  abbrev heads : List Side
  heads = map (side_at links) (run_places links)

  abbrev first : ℕ → ℕ
  first x = slice_index (run_places links ++ length links ∷ []) x

  length-heads : length heads ≡ length (run_places links)
  length-heads = length-map (run_places links) (side_at links)

  head_at : (x : ℕ) (d : Side) → x < length (run_places links) → get_or heads x d ≡ side_at links (first x)
  head_at x d inside = get_or-map (side_at links) (run_places links) x 0 d inside ∙ ap (side_at links) (first_is links sorted.rising small_at x 0 inside)

  pub heads-rise : AllPairs (λ a b. pair_rank a < pair_rank b) heads
  heads-rise i j d before inside =
      let in_j : j < length (run_places links) = omega (arith, length-heads) in
      let up = first-up links sorted.rising small_at i j before (omega (arith, length-firsts links sorted.rising small_at)) in
      omega (arith, ap pair_rank (head_at i d (omega arith)), ap pair_rank (head_at j d in_j), before_run links sorted.rising small_at j (first i) in_j up)

  head_in : (a : Side) → Contains heads a → Contains links a
  head_in a m =
      let f = from-map (side_at links) (run_places links) a m in
      let g = from-filter _ (range_with_len 0 (length links)) f.0 f.1 in
      subst (Contains links) f.2 (Contains-get_or links f.0 no_side (from-range (length links) f.0 g.0))

  abbrev of_path : ℕ → List Side
  of_path path = filter (λ a. eqb a.path path) heads

  pub neighbours_are : (path : ℕ) → map (λ (a : Side). a.other) (of_path path) ≡ neighbours_of instance path
  neighbours_are path = one_rising (map (λ (a : Side). a.other) (of_path path)) (neighbours_of instance path) ups
      (AllPairs-filter (λ a b. a < b) (shares_record instance path) (range_with_len 0 (length instance.paths)) (rising 0 (length instance.paths)))
      into from
    where
      ups : Rises (map (λ (a : Side). a.other) (of_path path))
      ups = pairs-map (λ a b. a < b) (λ (a : Side). a.other) (of_path path) (λ i j d before inside.
          let test : Side → Bool = λ a. eqb a.path path in
          let up = AllPairs-filter (λ a b. pair_rank a < pair_rank b) test heads heads-rise i j d before inside in
          let at_i = (from-filter test heads (get_or (of_path path) i d) (Contains-get_or (of_path path) i d (omega arith))).1 in
          let at_j = (from-filter test heads (get_or (of_path path) j d) (Contains-get_or (of_path path) j d inside)).1 in
          omega (arith, up, eqb-true _ _ at_i, eqb-true _ _ at_j))

      into : (z : ℕ) → Contains (map (λ (a : Side). a.other) (of_path path)) z → Contains (neighbours_of instance path) z
      into z m =
          let f = from-map (λ (a : Side). a.other) (of_path path) z m in
          let a = f.0 in
          let g = from-filter (λ (a : Side). eqb a.path path) heads a f.1 in
          let h = is_link a (head_in a g.0) in
          let two = names_two instance a valid h in
          let touching : touches path a.other (record_at instance a.position) ≡ true = subst (λ p. touches p a.other (record_at instance a.position) ≡ true) (eqb-true _ _ g.1) h.touching in
          subst (λ k. Contains (neighbours_of instance path) k) f.2
          (in-filter (shares_record instance path) (range_with_len 0 (length instance.paths)) a.other (in-range (length instance.paths) a.other two.other)
          (any-member (touches path a.other) instance.records (record_at instance a.position) (Contains-get_or instance.records a.position no_record h.inside) touching))

      from : (z : ℕ) → Contains (neighbours_of instance path) z → Contains (map (λ (a : Side). a.other) (of_path path)) z
      from z m =
          let f = from-filter (shares_record instance path) (range_with_len 0 (length instance.paths)) z m in
          let some = passing (touches path z) instance.records f.1 in
          let k = some.member.0 in
          let inside = some.member.1 in
          let same : record_at instance k ≡ some.item = get_or_default instance.records k no_record some.item inside ∙ some.member.2 in
          let a : Side = record { path = path; other = z; position = k } in
          let here : Contains links a = (sorted.members a).1 (record { inside = inside; touching = subst (λ r. touches path z r ≡ true) (sym same) some.passes }) in
          let at : side_at links here.0 ≡ a = get_or_default links here.0 no_side a here.1 ∙ here.2 in
          let run = of_run links sorted.rising small_at here.0 here.1 in
          let x = run.run in
          let h = get_or heads x no_side in
          let is_head : h ≡ side_at links (first x) = head_at x no_side run.inside in
          let mh : Contains heads h = Contains-get_or heads x no_side (omega (arith, length-heads, run.inside)) in
          let tiny = small_link h (head_in h mh) in
          let low : z < 65536 = omega (arith, from-range (length instance.paths) z f.0, valid.few_paths) in
          let both = same_pair h path z tiny.other low (ap pair_rank is_head ∙ (run.is ∙ ap pair_rank at)) in
          subst (λ q. Contains (map (λ (a : Side). a.other) (of_path path)) q) both.1
          (in-map (λ (a : Side). a.other) (of_path path) h (in-filter (λ (a : Side). eqb a.path path) heads h mh (eq-eqb h.path path both.0)))

  pub paths-rise : IsNonDecreasingBy (λ (a : Side). a.path) heads
  paths-rise i j d most inside = elim (cases_lt i j) [
    | inl less ↦
        let up = heads-rise i j d less inside in
        let tiny = small_link (get_or heads j d) (head_in (get_or heads j d) (Contains-get_or heads j d inside)) in
        let also = small_link (get_or heads i d) (head_in (get_or heads i d) (Contains-get_or heads i d (omega arith))) in
        omega (arith, up, tiny.other, also.other)
    | inr more ↦ let same : i ≡ j = omega arith in omega (arith, ap (λ k. (get_or heads k d).path) same)
  ]

  pub few_heads : length heads ≤ length links
  few_heads = omega (arith, length-heads, count_by-le-length (begins_run links) (range_with_len 0 (length links)), length-filter (begins_run links) (range_with_len 0 (length links)), length-range_with_len 0 (length links))

  -- the heads of a path stand from its start to that of the next path
  record OfPath (path start end : ℕ) : Type 0 where
    forward : start ≤ end
    within : end ≤ length heads
    is : of_path path ≡ slice_range heads start end

  heads_of : (path start end : ℕ) → IsStart heads path start → IsStart heads (path + 1) end → OfPath path start end
  heads_of path start end h k = record {
    forward = forward;
    within = k.within;
    is = filter_run (λ a. eqb a.path path) heads start end forward k.within
        (λ x d below. ne_eqb _ _ (λ e. omega (arith, e, h.before x d (omega arith) below)))
        (λ x d least below. eq-eqb _ _ (omega (arith, h.behind x d least (omega (arith, k.within)), k.before x d (omega arith) below)))
        (λ x d least inside. ne_eqb _ _ (λ e. omega (arith, e, k.behind x d least inside)));
  }
    where
      forward : start ≤ end
      forward = elim (cases_lt end start) [
        | inl less ↦ absurd (omega (arith, h.before end no_side (omega arith) less, k.behind end no_side (omega arith) (omega (arith, h.within))))
        | inr most ↦ most
      ]

  module _ (starts neighbours firsts positions : List ℕ) (whole : length starts ≡ length instance.paths + 1)
      (starting : (path : ℕ) → path ≤ length instance.paths → IsStart heads path (slice_index starts path))
      (others : neighbours ≡ map (λ (a : Side). a.other) heads) (places : positions ≡ map (λ (a : Side). a.position) links)
      (begin : firsts ≡ run_places links ++ length links ∷ []) where
    abbrev start : ℕ → ℕ
    start path = slice_index starts path

    of : (path : ℕ) → path < length instance.paths → OfPath path (start path) (start (path + 1))
    of path inside = heads_of path (start path) (start (path + 1)) (starting path (omega arith)) (starting (path + 1) (omega arith))

    neighbours_part : (path : ℕ) → path < length instance.paths → HasSlice starts neighbours path (neighbours_of instance path)
    neighbours_part path inside =
        let at = of path inside in
        record {
          inside = omega (arith, whole);
          forward = at.forward;
          within = omega (arith, at.within, ap length others, length-map heads (λ (a : Side). a.other));
          is = ap (λ xs. slice_range xs (start path) (start (path + 1))) others ∙ (map-range (λ (a : Side). a.other) heads (start path) (start (path + 1))
              ∙ (ap (map (λ (a : Side). a.other)) (sym at.is) ∙ neighbours_are path));
        }

    records_part : (path place : ℕ) → path < length instance.paths → place < length (neighbours_of instance path) →
        HasSlice firsts positions (start path + place) (records_of instance path (slice_index (neighbours_of instance path) place))
    records_part path place inside in_place =
        let at = of path inside in
        let near = neighbours_part path inside in
        let x = start path + place in
        let short : place < start (path + 1) - start path = omega (arith, in_place, ap length near.is, length-range neighbours (start path) (start (path + 1)) near.forward near.within) in
        let in_heads : x < length heads = omega (arith, at.within) in
        let in_runs : x < length (run_places links) = omega (arith, in_heads, length-heads) in
        let a = side_at links (first x) in
        let is_head : get_or heads x no_side ≡ a = head_at x no_side in_runs in
        let same_path : a.path ≡ path =
        omega (arith, ap (λ (h : Side). h.path) is_head, (starting path (omega arith)).behind x no_side (omega arith) in_heads, (starting (path + 1) (omega arith)).before x no_side (omega arith) (omega arith)) in
        let same_other : a.other ≡ slice_index (neighbours_of instance path) place =
        sym (ap (λ xs. slice_index xs place) (sym near.is) ∙ (get_or-range neighbours (start path) (start (path + 1)) place 0 short
        ∙ (ap (λ xs. slice_index xs x) others ∙ (get_or-map (λ (h : Side). h.other) heads x no_side 0 in_heads ∙ ap (λ (h : Side). h.other) is_head)))) in
        let up = first-up links sorted.rising small_at x (x + 1) (omega arith) (omega (arith, length-firsts links sorted.rising small_at)) in
        let low = small_link a (head_in a (subst (Contains heads) is_head (Contains-get_or heads x no_side in_heads))) in
        record {
          inside = omega (arith, ap length begin, length-firsts links sorted.rising small_at);
          forward = omega (arith, up, ap (λ xs. slice_index xs x) begin, ap (λ xs. slice_index xs (x + 1)) begin);
          within = omega (arith, next_within links sorted.rising small_at x in_runs, ap (λ xs. slice_index xs (x + 1)) begin, ap length places, length-map links (λ (h : Side). h.position));
          is = ap (λ xs. slice_range positions (slice_index xs x) (slice_index xs (x + 1))) begin
              ∙ (ap (λ xs. slice_range xs (first x) (first (x + 1))) places
              ∙ (map-range (λ (h : Side). h.position) links (first x) (first (x + 1))
              ∙ (ap (map (λ (h : Side). h.position)) (sym (run_is links sorted.rising small_at x in_runs))
              ∙ (ap (λ n. map (λ (h : Side). h.position) (of_pair n)) (ap (λ p. p * 65536 + a.other) same_path)
              ∙ (records_are path a.other low.other ∙ ap (records_of instance path) same_other)))));
        }

    pub are_indexes : AreIndexes instance starts neighbours firsts positions
    are_indexes = record { neighbours_at = neighbours_part; records_at = records_part }
