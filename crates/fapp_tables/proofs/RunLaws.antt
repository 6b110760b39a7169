-- Runs of links in order.
use Rattle.std.proofs.Common.{◌≡◌, ◌≢◌, ℕ, zero, suc, ◌+◌, ◌-◌, ◌<◌, ◌≤◌, true, false, not, ◌||◌, cond, eqb, List, [], ◌∷◌, ◌++◌, length, get_or, map, filter, add-zero, refl, sym, ap, ◌∙◌, subst, inl, inr, ⊎_elim, AllPairs, slice_index, arith}
use Rattle.std.specs.List.{range_with_len, slice_range}
use Rattle.std.proofs.lemmas.Bool.{cases_lt, cases_Bool, or_cases, or_parts, not-false, not-true, eqb-true, eqb-false, eq-eqb, ne_eqb}
use Rattle.std.proofs.lemmas.List.{append-nil, map_push, get_or_append_left, get_or_default, get_or_push, length_push}
use Rattle.std.proofs.lemmas.List.Elements.{Contains-get_or}
use Rattle.std.proofs.lemmas.List.Kept.{AllPairs-filter}
use Rattle.std.proofs.lemmas.List.Quantifiers.{all_pairs_push}
use Rattle.fapp_model.proofs.Members.{in-filter, from-filter, in-range, from-range}
use Rattle.fapp_model.proofs.InOrder.{rising}
use Rattle.fapp_tables.specs.declared.links.Side.{Side}
use Rattle.fapp_tables.specs.Links.{link_rank, pair_rank}
use Rattle.fapp_tables.specs.Runs.{begins_run, side_at, no_side, run_places}
use Rattle.fapp_tables.proofs.FilterLaws.{filter_run, filter-range_more}

-- a link's numbers are no larger than their types allow
pub record IsSmall (a : Side) : Type 0 where
  pub other : a.other < 65536
  pub position : a.position < 4294967296

-- one place more
pub record RunsTo (links : List Side) (heads : List Side) (firsts : List ℕ) (place : ℕ) : Type 0 where
  pub firsts_are : firsts ≡ filter (begins_run links) (range_with_len 0 place)
  pub heads_are : heads ≡ map (side_at links) (filter (begins_run links) (range_with_len 0 place))

pub more_begun : (links heads more_heads : List Side) (firsts more_firsts : List ℕ) (place : ℕ) → begins_run links place ≡ true → RunsTo links heads firsts place →
    more_heads ≡ heads ++ side_at links place ∷ [] → more_firsts ≡ firsts ++ place ∷ [] → RunsTo links more_heads more_firsts (place + 1)
more_begun links heads more_heads firsts more_firsts place begun so_far is_heads is_firsts =
    let kept : filter (begins_run links) (range_with_len 0 (place + 1)) ≡ filter (begins_run links) (range_with_len 0 place) ++ place ∷ [] =
    filter-range_more (begins_run links) place ∙ ap (λ t. filter (begins_run links) (range_with_len 0 place) ++ cond t (place ∷ []) []) begun in
    record {
      firsts_are = is_firsts ∙ (ap (λ (xs : List ℕ). xs ++ place ∷ []) so_far.firsts_are ∙ sym kept);
      heads_are = is_heads ∙ (ap (λ (xs : List Side). xs ++ side_at links place ∷ []) so_far.heads_are
          ∙ (sym (map_push (side_at links) (filter (begins_run links) (range_with_len 0 place)) place) ∙ ap (map (side_at links)) (sym kept)));
    }

pub more_same : (links heads : List Side) (firsts : List ℕ) (place : ℕ) → begins_run links place ≡ false → RunsTo links heads firsts place → RunsTo links heads firsts (place + 1)
more_same links heads firsts place none so_far =
    let kept : filter (begins_run links) (range_with_len 0 (place + 1)) ≡ filter (begins_run links) (range_with_len 0 place) =
    filter-range_more (begins_run links) place ∙ (ap (λ t. filter (begins_run links) (range_with_len 0 place) ++ cond t (place ∷ []) []) none ∙ append-nil (filter (begins_run links) (range_with_len 0 place))) in
    record {
      firsts_are = so_far.firsts_are ∙ sym kept;
      heads_are = so_far.heads_are ∙ ap (map (side_at links)) (sym kept);
    }

module _ (links : List Side) (rises : AllPairs (λ a b. link_rank a < link_rank b) links) (small : (k : ℕ) → k < length links → IsSmall (side_at links k)) where
  abbrev key : ℕ → ℕ
  key k = pair_rank (side_at links k)

  abbrev firsts : List ℕ
  firsts = run_places links ++ length links ∷ []

  abbrev first : ℕ → ℕ
  first x = slice_index firsts x

  pub key-up : (i j : ℕ) → i ≤ j → j < length links → key i ≤ key j
  key-up i j most inside = elim (cases_lt i j) [
    | inl less ↦
        let up = rises i j no_side less inside in
        let low = small i (omega arith) in
        let high = small j inside in
        omega (arith, up, low.position, high.position)
    | inr more ↦ let same : i ≡ j = omega arith in omega (arith, ap key same)
  ]

  -- at a place where no run begins the link is of the same pair as the one before
  no_change : (k : ℕ) → begins_run links k ≡ false → key (k - 1) ≡ key k
  no_change k none =
      let parts = or_parts (eqb k 0) (not (eqb (side_at links (k - 1)).path (side_at links k).path) || not (eqb (side_at links (k - 1)).other (side_at links k).other)) none in
      let both = or_parts (not (eqb (side_at links (k - 1)).path (side_at links k).path)) (not (eqb (side_at links (k - 1)).other (side_at links k).other)) parts.1 in
      omega (arith, eqb-true _ _ (not-false _ both.0), eqb-true _ _ (not-false _ both.1))

  change : (k : ℕ) → 0 < k → k < length links → begins_run links k ≡ true → key (k - 1) ≢ key k
  change k some inside begins e =
      let low = small (k - 1) (omega arith) in
      let high = small k inside in
      ⊎_elim
      (λ none. absurd (omega (arith, eqb-true k 0 none)))
      (λ differ. ⊎_elim
      (λ path. eqb-false _ _ (not-true _ path) (omega (arith, e, low.other, high.other)))
      (λ other. eqb-false _ _ (not-true _ other) (omega (arith, e, low.other, high.other)))
      (or_cases (not (eqb (side_at links (k - 1)).path (side_at links k).path)) (not (eqb (side_at links (k - 1)).other (side_at links k).other)) differ))
      (or_cases (eqb k 0) (not (eqb (side_at links (k - 1)).path (side_at links k).path) || not (eqb (side_at links (k - 1)).other (side_at links k).other)) begins)

  pub length-firsts : length firsts ≡ length (run_places links) + 1
  length-firsts = length_push (run_places links) (length links)

  pub first_is : (x d : ℕ) → x < length (run_places links) → get_or (run_places links) x d ≡ first x
  first_is x d inside = get_or_default (run_places links) x d 0 inside ∙ sym (get_or_append_left (run_places links) (length links ∷ []) 0 x inside)

  pub record Begins (x : ℕ) : Type 0 where
    pub inside : first x < length links
    pub begins : begins_run links (first x) ≡ true

  pub begins_at : (x : ℕ) → x < length (run_places links) → Begins x
  begins_at x inside =
      let m = from-filter (begins_run links) (range_with_len 0 (length links)) (get_or (run_places links) x 0) (Contains-get_or (run_places links) x 0 inside) in
      record {
        inside = omega (arith, first_is x 0 inside, from-range (length links) (get_or (run_places links) x 0) m.0);
        begins = subst (λ k. begins_run links k ≡ true) (first_is x 0 inside) m.1;
      }

  pub at_end : first (length (run_places links)) ≡ length links
  at_end = get_or_push (run_places links) (length links) 0 (length (run_places links)) refl

  firsts-rise : AllPairs (λ a b. a < b) firsts
  firsts-rise = all_pairs_push (λ a b. a < b) (run_places links) (length links)
      (AllPairs-filter (λ a b. a < b) (begins_run links) (range_with_len 0 (length links)) (rising 0 (length links)))
      (λ k d inside. omega (arith, (begins_at k inside).inside, first_is k d inside))

  pub first-up : (x y : ℕ) → x < y → y < length firsts → first x < first y
  first-up x y less inside = firsts-rise x y 0 less inside

  -- a place where a run begins is the first of some run
  pub record Found (k : ℕ) : Type 0 where
    pub run : ℕ
    pub inside : run < length (run_places links)
    pub is : first run ≡ k

  found : (k : ℕ) → k < length links → begins_run links k ≡ true → Found k
  found k inside begins =
      let m = in-filter (begins_run links) (range_with_len 0 (length links)) k (in-range (length links) k inside) begins in
      record { run = m.0; inside = m.1; is = sym (first_is m.0 k m.1) ∙ m.2 }

  no_first_between : (x y : ℕ) → x < length (run_places links) → y < length (run_places links) → first x < first y → first y < first (x + 1) → ⊥
  no_first_between x y in_x in_y above below = elim (cases_lt y (x + 1)) [
    | inl least ↦ elim (cases_lt y x) [
      | inl less ↦ let up = first-up y x less (omega (arith, length-firsts)) in omega (arith, up)
      | inr more ↦ let same : y ≡ x = omega arith in omega (arith, ap first same)
    ]
    | inr most ↦ elim (cases_lt (x + 1) y) [
      | inl less ↦ let up = first-up (x + 1) y less (omega (arith, length-firsts)) in omega (arith, up)
      | inr more ↦ let same : y ≡ x + 1 = omega arith in omega (arith, ap first same)
    ]
  ]

  pub next_within : (x : ℕ) → x < length (run_places links) → first (x + 1) ≤ length links
  next_within x inside = elim (cases_lt (x + 1) (length (run_places links))) [
    | inl less ↦ let at = begins_at (x + 1) less in omega (arith, at.inside)
    | inr more ↦ let same : x + 1 ≡ length (run_places links) = omega arith in omega (arith, ap first same, at_end)
  ]

  run_from : (x : ℕ) → x < length (run_places links) → (e : ℕ) → first x + e < first (x + 1) → key (first x + e) ≡ key (first x)
  run_from x inside zero below = ap key (add-zero (first x))
  run_from x inside (suc e) below =
      let before : first x + suc e - 1 ≡ first x + e = omega arith in
      let stays = ap key (sym before) in
      elim (cases_Bool (begins_run links (first x + suc e))) [
        | inl begun ↦
            let at = found (first x + suc e) (omega (arith, next_within x inside)) begun in
            absurd (no_first_between x at.run inside at.inside (omega (arith, at.is)) (omega (arith, at.is)))
        | inr none ↦ sym (no_change (first x + suc e) none) ∙ (ap key before ∙ run_from x inside e (omega arith))
      ]

  in_run : (x k : ℕ) → x < length (run_places links) → first x ≤ k → k < first (x + 1) → key k ≡ key (first x)
  in_run x k inside least below =
      let same : first x + (k - first x) ≡ k = omega arith in
      ap key (sym same) ∙ run_from x inside (k - first x) (omega arith)

  pub before_run : (x k : ℕ) → x < length (run_places links) → k < first x → key k < key (first x)
  before_run x k inside less =
      let at = begins_at x inside in
      let differ = change (first x) (omega arith) at.inside at.begins in
      let one = key-up k (first x - 1) (omega arith) (omega (arith, at.inside)) in
      let two = key-up (first x - 1) (first x) (omega arith) at.inside in
      omega (arith, one, two, differ)

  behind_run : (x k : ℕ) → x < length (run_places links) → first (x + 1) ≤ k → k < length links → key (first x) < key k
  behind_run x k inside least within = elim (cases_lt (x + 1) (length (run_places links))) [
    | inl less ↦
        let one = before_run (x + 1) (first x) less (first-up x (x + 1) (omega arith) (omega (arith, length-firsts))) in
        let two = key-up (first (x + 1)) k least within in
        omega (arith, one, two)
    | inr more ↦ let same : x + 1 ≡ length (run_places links) = omega arith in absurd (omega (arith, ap first same, at_end))
  ]

  same_key : (k : ℕ) (d : Side) → k < length links → pair_rank (get_or links k d) ≡ key k
  same_key k d inside = ap pair_rank (get_or_default links k d no_side inside)

  -- the links of a run's pair are those from its first place to that of the next run
  pub run_is : (x : ℕ) → x < length (run_places links) → filter (λ a. eqb (pair_rank a) (key (first x))) links ≡ slice_range links (first x) (first (x + 1))
  run_is x inside =
      let up = first-up x (x + 1) (omega arith) (omega (arith, length-firsts)) in
      let at = begins_at x inside in
      filter_run (λ a. eqb (pair_rank a) (key (first x))) links (first x) (first (x + 1)) (omega (arith, up)) (next_within x inside)
      (λ k d less. ne_eqb _ _ (λ e. omega (arith, e, at.inside, before_run x k inside less, same_key k d (omega (arith, at.inside)))))
      (λ k d least below. eq-eqb _ _ (same_key k d (omega (arith, next_within x inside)) ∙ in_run x k inside least below))
      (λ k d least within. ne_eqb _ _ (λ e. omega (arith, e, behind_run x k inside least within, same_key k d within)))

  -- each link is of the pair of some run
  pub record OfRun (k : ℕ) : Type 0 where
    pub run : ℕ
    pub inside : run < length (run_places links)
    pub is : key (first run) ≡ key k

  pub of_run : (k : ℕ) → k < length links → OfRun k
  of_run zero inside = let at = found zero inside refl in record { run = at.run; inside = at.inside; is = ap key at.is }
  of_run (suc k) inside =
      let before : suc k - 1 ≡ k = omega arith in
      elim (cases_Bool (begins_run links (suc k))) [
        | inl begun ↦ let at = found (suc k) inside begun in record { run = at.run; inside = at.inside; is = ap key at.is }
        | inr none ↦ let at = of_run k (omega arith) in record { run = at.run; inside = at.inside; is = at.is ∙ (ap key (sym before) ∙ no_change (suc k) none) }
      ]
