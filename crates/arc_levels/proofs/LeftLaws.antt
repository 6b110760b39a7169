-- Frequencies of the choices that are left, and partners among them.
use Rattle.std.proofs.Common.{◌≡◌, ◌⊎◌, ℕ, ◌<◌, ◌≤◌, ◌+◌, ◌-◌, Bool, true, false, not, ◌&&◌, cond, List, [], ◌∷◌, ◌++◌, length, zero-add, ℤ, pos, negsuc, map, filter, sym, refl, ap, ◌∙◌, subst, inl, inr, arith, AllPairs, Contains, get_or, leb}
use Rattle.std.specs.List.{range_with_len}
use Rattle.std.specs.List.Sorted.{IsNonDecreasingBy}
use Rattle.std.specs.Ordering.{int_eq}
use Rattle.std.proofs.lemmas.Bool.{and_parts, and_from, and_left, and_right, or_cases, or_parts, cases_Bool, cases_eq, cases_lt, not-true, not-false, not_from_false}
use Rattle.std.proofs.lemmas.Bool.Decides.{Decides-int_eq}
use Rattle.std.proofs.lemmas.List.{append-nil, get_or_default, map-append}
use Rattle.std.proofs.lemmas.List.Elements.{All-contains, Contains-get_or}
use Rattle.std.proofs.lemmas.List.FromFn.{length-range_with_len, get_or-range_with_len}
use Rattle.std.proofs.lemmas.List.Kept.{AllPairs-from_increasing}
use Rattle.fapp_model.specs.declared.choice.Choice.{Choice}
use Rattle.fapp_model.specs.declared.instance.Instance.{Instance}
use Rattle.fapp_model.specs.declared.instance.Path.{Path}
use Rattle.fapp_model.specs.declared.literal.Literal.{Literal}
use Rattle.fapp_model.specs.Assignments.{count_at, no_path, path_at}
use Rattle.fapp_model.specs.Choices.{choices, choices_with, no_choice, polarizations}
use Rattle.fapp_model.specs.Instances.{IsInstance, IsNumber, IsPath, IsPolarization}
use Rattle.fapp_model.specs.search.Arcs.{HasPartner}
use Rattle.fapp_model.specs.search.Clashes.{clashes}
use Rattle.fapp_model.specs.search.Partials.{choice_of, literal}
use Rattle.fapp_model.proofs.Anys.{any-member, no-member, none-member, passing}
use Rattle.fapp_model.proofs.InOrder.{pairs-filter, pairs-flat_map, pairs-map, pairs-weaker}
use Rattle.fapp_model.proofs.Members.{All-from_members, front_or_behind, no_member, from-filter, from-flat_map, from-map, from-range, in-filter, in-map, in-range}
use Rattle.fapp_tables.proofs.ClashLaws.{clashes_is}
use Rattle.fapp_tables.proofs.FilterLaws.{filter-range_more}
use Rattle.arc_levels.specs.declared.gaps.Edge.{Edge}
use Rattle.arc_levels.specs.declared.left.Left.{Left}
use Rattle.arc_levels.specs.Gaps.{IsNextApart, IsPair, pair_clash}
use Rattle.arc_levels.specs.Left.{AreRising, IsLeft, IsPlaceOf, has_partner, is_left, is_met, left_freqs}
use Rattle.arc_levels.specs.Heights.{IsLonelyFrom, arc_of, is_partner, height_at}

not_true : {x : Bool} → x ≡ true → not x ≡ false
not_true h = ap not h

-- ---- the choices of a path: they ascend, and each has one of two polarizations

abbrev pub IsFixed : ℤ → Type 0
IsFixed z = (z ≡ negsuc 0) ⊎ (z ≡ pos 1)

only_member : {X : Type 0} (x y : X) → Contains (x ∷ []) y → x ≡ y
only_member x y m = elim (front_or_behind x [] y m) [
  | inl here ↦ here
  | inr later ↦ absurd (no_member y later)
]

fixed_in : (z : ℤ) → IsPolarization z → (p : ℤ) → Contains (polarizations z) p → IsFixed p
fixed_in z (inl e) p m = inl (sym (only_member (negsuc 0) p (subst (λ x. Contains (polarizations x) p) e m)))
fixed_in z (inr (inl e)) p m = elim (front_or_behind (negsuc 0) (pos 1 ∷ []) p (subst (λ x. Contains (polarizations x) p) e m)) [
  | inl here ↦ inl (sym here)
  | inr later ↦ inr (sym (only_member (pos 1) p later))
]
fixed_in z (inr (inr e)) p m = inr (sym (only_member (pos 1) p (subst (λ x. Contains (polarizations x) p) e m)))

-- a choice of a path: one of the frequencies, with a polarization that is not 0
pub record IsOwn (path : Path) (c : Choice) : Type 0 where
  pub freq : Contains path.freqs c.freq
  pub fixed : IsFixed c.pol

own_choice : (path : Path) → IsPath path → (c : Choice) → Contains (choices path) c → IsOwn path c
own_choice path is c member =
    let (f, inside, made) = from-flat_map (choices_with path.pol) path.freqs c member in
    let (p, within, same) = from-map (λ p. record { freq = f; pol = p }) (polarizations path.pol) c made in
    record {
      freq = subst (λ (x : Choice). Contains path.freqs x.freq) same inside;
      fixed = subst (λ (x : Choice). IsFixed x.pol) same (fixed_in path.pol is.polarization p within);
    }

with_frequency : (z : ℤ) (f : ℕ) (c : Choice) → Contains (choices_with z f) c → f ≡ c.freq
with_frequency z f c m = let (p, within, same) = from-map (λ p. record { freq = f; pol = p }) (polarizations z) c m in ap (λ (x : Choice). x.freq) same

rising_choices : (path : Path) → IsPath path → AllPairs (λ (a b : Choice). a.freq ≤ b.freq) (choices path)
rising_choices path is =
    pairs-flat_map (λ (a b : Choice). a.freq ≤ b.freq) (choices_with path.pol) path.freqs
    (All-from_members (λ f. AllPairs (λ (a b : Choice). a.freq ≤ b.freq) (choices_with path.pol f)) path.freqs (λ f m.
    pairs-map (λ (a b : Choice). a.freq ≤ b.freq) (λ p. record { freq = f; pol = p }) (polarizations path.pol) (λ i j d less within. omega arith)))
    (pairs-weaker (λ x y. x < y) (λ x y. (a b : Choice) → Contains (choices_with path.pol x) a → Contains (choices_with path.pol y) b → a.freq ≤ b.freq)
    (λ x y less a b in_x in_y. omega (arith, less, with_frequency path.pol x a in_x, with_frequency path.pol y b in_y)) path.freqs (AllPairs-from_increasing path.freqs is.ascending))

pub path_valid : (instance : Instance) → IsInstance instance → (path : ℕ) → path < length instance.paths → IsPath (path_at instance path)
path_valid instance valid path inside = All-contains IsPath instance.paths (path_at instance path) valid.paths (Contains-get_or instance.paths path no_path inside)

pub own_literal : (instance : Instance) → IsInstance instance → (path index : ℕ) → path < length instance.paths → index < count_at instance path → IsOwn (path_at instance path) (choice_of instance (literal path index))
own_literal instance valid path index inside below =
    own_choice (path_at instance path) (path_valid instance valid path inside) (choice_of instance (literal path index)) (Contains-get_or (choices (path_at instance path)) index no_choice below)

pub own_number : (instance : Instance) → IsInstance instance → (path index : ℕ) → path < length instance.paths → index < count_at instance path → IsNumber (choice_of instance (literal path index)).freq
own_number instance valid path index inside below =
    All-contains IsNumber (path_at instance path).freqs (choice_of instance (literal path index)).freq (path_valid instance valid path inside).numbers (own_literal instance valid path index inside below).freq

one_choice : (c : Choice) (f : ℕ) (z : ℤ) → c.freq ≡ f → c.pol ≡ z → c ≡ record { freq = f; pol = z }
one_choice c f z e g = subst (λ x. c ≡ record { freq = x; pol = z }) e (subst (λ y. c ≡ record { freq = c.freq; pol = y }) g refl)

-- ---- the frequencies that are left

abbrev frequency : Instance → ℕ → ℕ → ℕ
frequency instance path index = (choice_of instance (literal path index)).freq

pub left_more : (instance : Instance) (level : ℕ) (rows : List (List ℕ)) (path : ℕ) (z : ℤ) (n : ℕ) → is_left instance level rows path z n ≡ true →
    left_freqs instance level rows path z (n + 1) ≡ left_freqs instance level rows path z n ++ (choice_of instance (literal path n)).freq ∷ []
left_more instance level rows path z n kept =
    ap (map (frequency instance path)) (filter-range_more (is_left instance level rows path z) n ∙ ap (λ t. filter (is_left instance level rows path z) (range_with_len 0 n) ++ cond t (n ∷ []) []) kept)
    ∙ map-append (frequency instance path) (filter (is_left instance level rows path z) (range_with_len 0 n)) (n ∷ [])

pub left_same : (instance : Instance) (level : ℕ) (rows : List (List ℕ)) (path : ℕ) (z : ℤ) (n : ℕ) → is_left instance level rows path z n ≡ false →
    left_freqs instance level rows path z (n + 1) ≡ left_freqs instance level rows path z n
left_same instance level rows path z n out =
    ap (map (frequency instance path)) (filter-range_more (is_left instance level rows path z) n ∙ (ap (λ t. filter (is_left instance level rows path z) (range_with_len 0 n) ++ cond t (n ∷ []) []) out
    ∙ append-nil (filter (is_left instance level rows path z) (range_with_len 0 n))))

pub left_rising : (instance : Instance) (level : ℕ) (rows : List (List ℕ)) (path : ℕ) (z : ℤ) → IsInstance instance → path < length instance.paths → AreRising (left_freqs instance level rows path z (count_at instance path))
left_rising instance level rows path z valid inside = record {
  numbers = All-from_members IsNumber (left_freqs instance level rows path z (count_at instance path)) (λ f m.
      let (k, here, same) = from-map (λ k. (choice_of instance (literal path k)).freq) (filter (is_left instance level rows path z) (range_with_len 0 (count_at instance path))) f m in
      let within = from-range (count_at instance path) k (from-filter (is_left instance level rows path z) (range_with_len 0 (count_at instance path)) k here).0 in
      subst IsNumber same (own_number instance valid path k inside within));
  rising = pairs-map (λ a b. a ≤ b) (λ k. (choice_of instance (literal path k)).freq) (filter (is_left instance level rows path z) (range_with_len 0 (count_at instance path)))
      (pairs-filter (λ k l. (choice_of instance (literal path k)).freq ≤ (choice_of instance (literal path l)).freq) (is_left instance level rows path z) (range_with_len 0 (count_at instance path))
      (λ i j d less within.
      let short : j < count_at instance path = omega (arith, within, length-range_with_len 0 (count_at instance path)) in
      let here : get_or (range_with_len 0 (count_at instance path)) i d ≡ 0 + i = get_or-range_with_len 0 (count_at instance path) i d (omega (arith, less, short)) in
      let there : get_or (range_with_len 0 (count_at instance path)) j d ≡ 0 + j = get_or-range_with_len 0 (count_at instance path) j d short in
      rw (here, there, zero-add i, zero-add j) (rising_choices (path_at instance path) (path_valid instance valid path inside) i j no_choice less short)));
}

pub left_as : (instance : Instance) (level : ℕ) (old rows : List (List ℕ)) (path : ℕ) (left : Left) → ((k : ℕ) → height_at rows path k ≡ height_at old path k) → IsLeft instance level old path left → IsLeft instance level rows path left
left_as instance level old rows path left same l = record { minus = l.minus ∙ freqs (negsuc 0); plus = l.plus ∙ freqs (pos 1) }
  where
    freqs : (z : ℤ) → left_freqs instance level old path z (count_at instance path) ≡ left_freqs instance level rows path z (count_at instance path)
    freqs z = ap (λ test. map (frequency instance path) (filter test (range_with_len 0 (count_at instance path)))) (λ i index. leb (sym (same index) i) level && int_eq (choice_of instance (literal path index)).pol z)

pub minus_rising : (instance : Instance) (level : ℕ) (rows : List (List ℕ)) (path : ℕ) (left : Left) → IsInstance instance → path < length instance.paths → IsLeft instance level rows path left → AreRising left.minus.items
minus_rising instance level rows path left valid inside l = subst AreRising (sym l.minus) (left_rising instance level rows path (negsuc 0) valid inside)

pub plus_rising : (instance : Instance) (level : ℕ) (rows : List (List ℕ)) (path : ℕ) (left : Left) → IsInstance instance → path < length instance.paths → IsLeft instance level rows path left → AreRising left.plus.items
plus_rising instance level rows path left valid inside l = subst AreRising (sym l.plus) (left_rising instance level rows path (pos 1) valid inside)

-- ---- a search among them

pub rising_by : (freqs : List ℕ) → AreRising freqs → IsNonDecreasingBy (λ n. n) freqs
rising_by freqs rising i j d upto within = elim (cases_eq i j) [
  | inl same ↦ omega (arith, ap (λ x. get_or freqs x d) same)
  | inr apart ↦ rising.rising i j d (omega (arith, upto, apart)) within
]

-- none of the first of some frequencies goes with a choice
pub record AreUnmet (pair : Edge) (first : Choice) (z : ℤ) (freqs : List ℕ) (place : ℕ) : Type 0 where
  pub within : place ≤ length freqs
  pub each : (k : ℕ) → k < place → pair_clash pair first (record { freq = get_or freqs k 0; pol = z }) ≡ true

pub unmet_none : (pair : Edge) (first : Choice) (z : ℤ) (freqs : List ℕ) → AreUnmet pair first z freqs 0
unmet_none pair first z freqs = record { within = omega arith; each = λ k below. absurd (omega (arith, below)) }

pub unmet_more : (pair : Edge) (first : Choice) (z : ℤ) (freqs : List ℕ) (place next more : ℕ) → AreRising freqs → AreUnmet pair first z freqs place → IsNextApart (pair_clash pair first) (record { freq = get_or freqs place 0; pol = z }) next →
    IsPlaceOf freqs next more → AreUnmet pair first z freqs more
unmet_more pair first z freqs place next more rising so_far found at = record {
  within = at.within;
  each = λ k below. elim (cases_lt k place) [
    | inl less ↦ so_far.each k less
    | inr later ↦ found.before (record { freq = get_or freqs k 0; pol = z }) refl (up k below (cases_eq place k) later) (at.before k below)
  ];
}
  where
    up : (k : ℕ) → k < more → (place ≡ k) ⊎ (place ≡ k → ⊥) → place ≤ k → get_or freqs place 0 ≤ get_or freqs k 0
    up k below (inl same) later = omega (arith, ap (λ x. get_or freqs x 0) same)
    up k below (inr apart) later = rising.rising place k 0 (omega (arith, later, apart)) (omega (arith, below, at.within))

pub place_nearer : (freqs : List ℕ) (place next found : ℕ) → IsPlaceOf freqs next found → place < length freqs → get_or freqs place 0 < next → length freqs - found < length freqs - place
place_nearer freqs place next found at inside under = elim (cases_lt place found) [
  | inl less ↦ omega (arith, less, inside)
  | inr more ↦ absurd (omega (arith, at.behind place more inside, under))
]

pub unmet_all : (pair : Edge) (first : Choice) (z : ℤ) (freqs : List ℕ) (place : ℕ) → length freqs ≤ place → AreUnmet pair first z freqs place → is_met pair first z freqs ≡ false
unmet_all pair first z freqs place all found = no-member (λ n. not (pair_clash pair first (record { freq = n; pol = z }))) freqs (λ n m.
    let bad = found.each m.0 (omega (arith, m.1, all)) in
    let same : get_or freqs m.0 0 ≡ n = get_or_default freqs m.0 0 n m.1 ∙ m.2 in
    not_true (subst (λ x. pair_clash pair first (record { freq = x; pol = z }) ≡ true) same bad))

pub met_here : (pair : Edge) (first : Choice) (z : ℤ) (freqs : List ℕ) (place : ℕ) → place < length freqs → pair_clash pair first (record { freq = get_or freqs place 0; pol = z }) ≡ false → is_met pair first z freqs ≡ true
met_here pair first z freqs place inside free =
    any-member (λ n. not (pair_clash pair first (record { freq = n; pol = z }))) freqs (get_or freqs place 0) (Contains-get_or freqs place 0 inside) (not_from_false _ free)

-- ---- partners

module _ (pair : Edge) (is : IsPair pair) (rows : List (List ℕ)) (left : Left) (k : ℕ) (l : IsLeft pair.instance.now pair.level rows pair.other left) where
  abbrev instance : Instance
  instance = pair.instance.now

  abbrev mine : Literal
  mine = literal pair.path k

  abbrev first : Choice
  first = choice_of instance mine

  clash_is : (index : ℕ) → clashes instance pair.level mine (literal pair.other index) ≡ pair_clash pair first (choice_of instance (literal pair.other index))
  clash_is index = clashes_is instance pair.level mine (literal pair.other index)

  -- one that goes with the choice, at a polarization
  met_partner : (z : ℤ) → is_met pair first z (left_freqs instance pair.level rows pair.other z (count_at instance pair.other)) ≡ true → HasPartner instance pair.level (arc_of rows pair.level) mine pair.other
  met_partner z met =
      let some = passing (λ n. not (pair_clash pair first (record { freq = n; pol = z }))) (left_freqs instance pair.level rows pair.other z (count_at instance pair.other)) met in
      let (index, kept, same) = from-map (λ i. (choice_of instance (literal pair.other i)).freq) (filter (is_left instance pair.level rows pair.other z) (range_with_len 0 (count_at instance pair.other))) some.item some.member in
      let found = from-filter (is_left instance pair.level rows pair.other z) (range_with_len 0 (count_at instance pair.other)) index kept in
      let parts = and_parts (arc_of rows pair.level (literal pair.other index)) (int_eq (choice_of instance (literal pair.other index)).pol z) found.1 in
      let pol : (choice_of instance (literal pair.other index)).pol ≡ z = (Decides-int_eq _ z).0 parts.1 in
      record {
        index = index;
        member = parts.0;
        apart = clash_is index ∙ (ap (pair_clash pair first) (one_choice (choice_of instance (literal pair.other index)) some.item z same pol) ∙ not-true _ some.passes);
      }

  pub partner_left : has_partner pair first left ≡ true → HasPartner instance pair.level (arc_of rows pair.level) mine pair.other
  partner_left met = elim (or_cases (is_met pair first (negsuc 0) left.minus.items) (is_met pair first (pos 1) left.plus.items) met) [
    | inl minus ↦ met_partner (negsuc 0) (ap (is_met pair first (negsuc 0)) (sym l.minus) ∙ minus)
    | inr plus ↦ met_partner (pos 1) (ap (is_met pair first (pos 1)) (sym l.plus) ∙ plus)
  ]

  -- none does, at a polarization
  unmet : (z : ℤ) → is_met pair first z (left_freqs instance pair.level rows pair.other z (count_at instance pair.other)) ≡ false → (index : ℕ) → index < count_at instance pair.other → (choice_of instance (literal pair.other index)).pol ≡ z →
      is_partner instance pair.level rows mine (literal pair.other index) ≡ false
  unmet z none index below pol = by_arc (cases_Bool (arc_of rows pair.level (literal pair.other index)))
    where
      by_arc : (arc_of rows pair.level (literal pair.other index) ≡ true) ⊎ (arc_of rows pair.level (literal pair.other index) ≡ false) → is_partner instance pair.level rows mine (literal pair.other index) ≡ false
      by_arc (inr out) = and_left _ _ out
      by_arc (inl within) =
          let kept = in-filter (is_left instance pair.level rows pair.other z) (range_with_len 0 (count_at instance pair.other)) index (in-range _ _ below) (and_from _ _ within ((Decides-int_eq _ z).1 pol)) in
          let member = in-map (λ i. (choice_of instance (literal pair.other i)).freq) (filter (is_left instance pair.level rows pair.other z) (range_with_len 0 (count_at instance pair.other))) index kept in
          let bad : not (pair_clash pair first (record { freq = (choice_of instance (literal pair.other index)).freq; pol = z })) ≡ false =
          none-member (λ n. not (pair_clash pair first (record { freq = n; pol = z }))) (left_freqs instance pair.level rows pair.other z (count_at instance pair.other)) none (choice_of instance (literal pair.other index)).freq member in
          let here : pair_clash pair first (choice_of instance (literal pair.other index)) ≡ true =
          ap (pair_clash pair first) (one_choice (choice_of instance (literal pair.other index)) (choice_of instance (literal pair.other index)).freq z refl pol) ∙ not-false _ bad in
          and_right (arc_of rows pair.level (literal pair.other index)) (not (clashes instance pair.level mine (literal pair.other index))) (not_true (clash_is index ∙ here))

  pub lonely_left : has_partner pair first left ≡ false → IsLonelyFrom instance pair.level rows mine pair.other 0
  lonely_left none index from below =
      let parts = or_parts (is_met pair first (negsuc 0) left.minus.items) (is_met pair first (pos 1) left.plus.items) none in
      elim (own_literal instance is.valid pair.other index is.other below).fixed [
        | inl minus ↦ unmet (negsuc 0) (ap (is_met pair first (negsuc 0)) (sym l.minus) ∙ parts.0) index below minus
        | inr plus ↦ unmet (pos 1) (ap (is_met pair first (pos 1)) (sym l.plus) ∙ parts.1) index below plus
      ]
