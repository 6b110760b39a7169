-- What removing choices does to the arcs.
use Rattle.std.proofs.Common.{◌≡◌, ◌⊎◌, ℕ, ◌+◌, ◌<◌, ◌≤◌, Bool, true, false, not, cond, List, [], length, get_or, set, refl, sym, ap, ◌∙◌, subst, inl, inr, arith, count_by, IsTrue, leb}
use Rattle.std.specs.List.{range_with_len}
use Rattle.std.proofs.lemmas.Bool.{and_parts, and_from, both_ways, not-true, not_from_false, cases_eq, cases_lt, leb-true, le-leb}
use Rattle.std.proofs.lemmas.List.{get_or_past, get_or-set_other, get_or-set_same, length-set}
use Rattle.fapp_model.specs.declared.instance.Instance.{Instance}
use Rattle.fapp_model.specs.declared.literal.Literal.{Literal}
use Rattle.fapp_model.specs.search.Arcs.{HasPartner, IsSupported}
use Rattle.fapp_model.specs.Assignments.{count_at}
use Rattle.fapp_model.specs.search.Clashes.{clashes, shares_record}
use Rattle.fapp_model.specs.search.Partials.{literal, IsLiteral}
use Rattle.dead_laws.specs.ArcLaws.{IsArcs}
use Rattle.fapp_model.proofs.Anys.{sum_by-lt-member}
use Rattle.fapp_model.proofs.Members.{All-range, in-range}
use Rattle.fapp_model.proofs.Sums.{count_by-le-members, cond-le}
use Rattle.arc_levels.specs.Heights.{AreHeights, Falls, IsLonelyFrom, IsPartnerAt, HasPartners, IsWideAt, arc_of, height_at, height_of, no_height, size_of}
use Rattle.arc_levels.specs.Removals.{marked}
use Rattle.fapp_model.specs.declared.level.TheConstants.{MAX_LEVELS}

pub row_same : (rows : List (List ℕ)) (p k m : ℕ) → p < length rows → get_or (marked rows p k m) p [] ≡ set (get_or rows p []) k m
row_same rows p k m h = get_or-set_same rows p (set (get_or rows p []) k m) [] h

pub row_other : (rows : List (List ℕ)) (p k m q : ℕ) → (q ≡ p → ⊥) → get_or (marked rows p k m) q [] ≡ get_or rows q []
row_other rows p k m q h = get_or-set_other rows p q (set (get_or rows p []) k m) [] h

pub height_same : (rows : List (List ℕ)) (p k m : ℕ) → p < length rows → k < length (get_or rows p []) → height_at (marked rows p k m) p k ≡ m
height_same rows p k m h l = ap (λ (r : List ℕ). height_of r k) (row_same rows p k m h) ∙ get_or-set_same (get_or rows p []) k m 13 l

pub height_row : (rows : List (List ℕ)) (p k m q i : ℕ) → (q ≡ p → ⊥) → height_at (marked rows p k m) q i ≡ height_at rows q i
height_row rows p k m q i h = ap (λ (r : List ℕ). height_of r i) (row_other rows p k m q h)

pub height_index : (rows : List (List ℕ)) (p k m i : ℕ) → p < length rows → (i ≡ k → ⊥) → height_at (marked rows p k m) p i ≡ height_at rows p i
height_index rows p k m i h other = ap (λ (r : List ℕ). height_of r i) (row_same rows p k m h) ∙ get_or-set_other (get_or rows p []) k i m no_height other

-- each height is the one that was written, or stays
pub height_either : (rows : List (List ℕ)) (p k m q i : ℕ) → p < length rows → ((q ≡ p) × (i ≡ k)) ⊎ (height_at (marked rows p k m) q i ≡ height_at rows q i)
height_either rows p k m q i h =
    elim (cases_eq q p) [
      | inl same ↦ elim (cases_eq i k) [
        | inl here ↦ inl (same, here)
        | inr other ↦ inr (subst (λ x. height_at (marked rows p k m) x i ≡ height_at rows x i) (sym same) (height_index rows p k m i h other))
      ]
      | inr other ↦ inr (height_row rows p k m q i other)
    ]

pub heights_still : (instance : Instance) (rows : List (List ℕ)) (p k m : ℕ) → AreHeights instance rows → p < length instance.paths → AreHeights instance (marked rows p k m)
heights_still instance rows p k m a h = record {
  paths = length-set rows p (set (get_or rows p []) k m) ∙ a.paths;
  counts = λ q l. elim (cases_eq q p) [
    | inl same ↦ subst (λ x. length (get_or (marked rows p k m) x []) ≡ count_at instance x) (sym same)
        (ap length (row_same rows p k m (omega (arith, a.paths))) ∙ (length-set (get_or rows p []) k m ∙ a.counts p h))
    | inr other ↦ ap length (row_other rows p k m q other) ∙ a.counts q l
  ];
}

-- ---- falling

pub falls_none : (level : ℕ) (rows : List (List ℕ)) → Falls level rows rows
falls_none level rows = λ q i. inl refl

pub falls_both : (level : ℕ) (a b c : List (List ℕ)) → Falls level a b → Falls level b c → Falls level a c
falls_both level a b c f g = λ q i. elim (g q i) [
  | inl same ↦ elim (f q i) [
    | inl before ↦ inl (same ∙ before)
    | inr (low, is) ↦ inr (low, same ∙ is)
  ]
  | inr (low, is) ↦ elim (f q i) [
    | inl before ↦ inr (omega (arith, before), is)
    | inr (lower, height) ↦ inr (lower, is)
  ]
]

pub falls_marked : (level : ℕ) (rows : List (List ℕ)) (p k : ℕ) → p < length rows → k < length (get_or rows p []) → IsTrue (arc_of rows level (literal p k)) → Falls level rows (marked rows p k (level + 1))
falls_marked level rows p k h l within = λ q i. elim (height_either rows p k (level + 1) q i h) [
  | inl (same, here) ↦ inr (
    subst (λ x. height_at rows x i ≤ level) (sym same) (subst (λ x. height_at rows p x ≤ level) (sym here) (leb-true _ _ within)),
    subst (λ x. height_at (marked rows p k (level + 1)) x i ≡ level + 1) (sym same) (subst (λ x. height_at (marked rows p k (level + 1)) p x ≡ level + 1) (sym here) (height_same rows p k (level + 1) h l)),
  )
  | inr stays ↦ inl stays
]

-- what is within the arcs after was so before
pub within_before : (level : ℕ) (old rows : List (List ℕ)) → Falls level old rows → (a : Literal) → IsTrue (arc_of rows level a) → IsTrue (arc_of old level a)
within_before level old rows f a h = elim (f a.path a.choice) [
  | inl same ↦ subst (λ x. leb x level ≡ true) same h
  | inr (low, is) ↦ le-leb _ _ low
]

-- at a higher level nothing changes
pub within_higher : (level m : ℕ) (old rows : List (List ℕ)) → level < m → Falls level old rows → (a : Literal) → arc_of rows m a ≡ arc_of old m a
within_higher level m old rows above f a = elim (f a.path a.choice) [
  | inl same ↦ ap (λ x. leb x m) same
  | inr (low, is) ↦ le-leb _ _ (omega (arith, is)) ∙ sym (le-leb _ _ (omega arith))
]

-- ---- what is within

pub within_heights : (instance : Instance) (rows : List (List ℕ)) → AreHeights instance rows → (a : Literal) → height_at rows a.path a.choice ≤ MAX_LEVELS + 1 → IsLiteral instance a
within_heights instance rows m a height = by_path (cases_lt a.path (length instance.paths))
  where
    by_choice : a.path < length instance.paths → (a.choice < count_at instance a.path) ⊎ (count_at instance a.path ≤ a.choice) → IsLiteral instance a
    by_choice p (inl less) = record { path = p; choice = less }
    by_choice p (inr more) = absurd (omega (arith, height, get_or_past (get_or rows a.path []) a.choice no_height (omega (arith, m.counts a.path p))))

    by_path : (a.path < length instance.paths) ⊎ (length instance.paths ≤ a.path) → IsLiteral instance a
    by_path (inl less) = by_choice less (cases_lt a.choice (count_at instance a.path))
    by_path (inr more) = absurd (omega (arith, height, ap (λ (r : List ℕ). height_of r a.choice) (get_or_past rows a.path [] (omega (arith, m.paths)))))

pub within_range : (instance : Instance) (level : ℕ) (rows : List (List ℕ)) → AreHeights instance rows → level ≤ MAX_LEVELS → (a : Literal) → IsTrue (arc_of rows level a) → IsLiteral instance a
within_range instance level rows m small a h = within_heights instance rows m a (omega (arith, leb-true (height_at rows a.path a.choice) level h))

-- a partner in the arcs passes the test, and the other way round
pub partner_found : (instance : Instance) (level : ℕ) (rows : List (List ℕ)) (a : Literal) (q k : ℕ) → IsPartnerAt instance level rows a q k → HasPartner instance level (arc_of rows level) a q
partner_found instance level rows a q k h =
    let parts = and_parts (arc_of rows level (literal q k)) (not (clashes instance level a (literal q k))) h in
    record { index = k; member = parts.0; apart = not-true _ parts.1 }

pub never_lonely : (instance : Instance) (level : ℕ) (rows : List (List ℕ)) (a : Literal) (q : ℕ) → AreHeights instance rows → level ≤ MAX_LEVELS →
    IsLonelyFrom instance level rows a q 0 → HasPartner instance level (arc_of rows level) a q → ⊥
never_lonely instance level rows a q heights small lonely friend =
    both_ways _ (lonely friend.index (omega arith) (within_range instance level rows heights small (literal q friend.index) friend.member).choice)
    (and_from _ _ friend.member (not_from_false _ friend.apart))

-- what a supported family has isn't removed
pub wide_still : (instance : Instance) (level : ℕ) (rows : List (List ℕ)) (p k q : ℕ) → AreHeights instance rows → level ≤ MAX_LEVELS → p < length instance.paths →
    IsTrue (shares_record instance p q) → IsWideAt instance level rows → IsLonelyFrom instance level rows (literal p k) q 0 → IsWideAt instance level (marked rows p k (level + 1))
wide_still instance level rows p k q m small h shares wide lonely family supported a member =
    elim (height_either rows p k (level + 1) a.path a.choice (omega (arith, m.paths))) [
      | inl (same, here) ↦
          let moved : IsTrue (family (literal p k)) = subst (λ x. IsTrue (family (literal x k))) same (subst (λ x. IsTrue (family (literal a.path x))) here member) in
          let friend = supported.supported (literal p k) q moved shares in
          let kept : HasPartner instance level (arc_of rows level) (literal p k) q = record { index = friend.index; member = wide family supported (literal q friend.index) friend.member; apart = friend.apart } in
          absurd (never_lonely instance level rows (literal p k) q m small lonely kept)
      | inr stays ↦ subst (λ x. leb x level ≡ true) (sym stays) (wide family supported a member)
    ]

-- a choice keeps its partners while choices of other paths are removed
pub partner_still : (instance : Instance) (level : ℕ) (rows : List (List ℕ)) (p k height q : ℕ) (a : Literal) → (q ≡ p → ⊥) → HasPartner instance level (arc_of rows level) a q → HasPartner instance level (arc_of (marked rows p k height) level) a q
partner_still instance level rows p k height q a other friend = record {
  index = friend.index;
  member = subst (λ x. leb x level ≡ true) (sym (height_row rows p k height q friend.index other)) friend.member;
  apart = friend.apart;
}

-- ---- how many

pub fewer : (instance : Instance) (level : ℕ) (old rows : List (List ℕ)) → Falls level old rows → (a : Literal) → IsLiteral instance a → IsTrue (arc_of old level a) → arc_of rows level a ≡ false → size_of instance level rows < size_of instance level old
fewer instance level old rows f a home before after =
    sum_by-lt-member (λ p. count_by (λ i. arc_of rows level (literal p i)) (range_with_len 0 (count_at instance p))) (λ p. count_by (λ i. arc_of old level (literal p i)) (range_with_len 0 (count_at instance p)))
    (range_with_len 0 (length instance.paths)) a.path
    (All-range _ _ (λ p h. count_by-le-members (λ i. arc_of rows level (literal p i)) (λ i. arc_of old level (literal p i)) (range_with_len 0 (count_at instance p)) (All-range _ _ (λ i l. within_before level old rows f (literal p i)))))
    (in-range _ _ home.path)
    (sum_by-lt-member (λ i. cond (arc_of rows level (literal a.path i)) 1 0) (λ i. cond (arc_of old level (literal a.path i)) 1 0) (range_with_len 0 (count_at instance a.path)) a.choice
    (All-range _ _ (λ i l. cond-le (arc_of rows level (literal a.path i)) (arc_of old level (literal a.path i)) (within_before level old rows f (literal a.path i))))
    (in-range _ _ home.choice)
    (less (arc_of rows level a) (arc_of old level a) after before))
  where
    less : (x y : Bool) → x ≡ false → y ≡ true → cond x 1 0 < cond y 1 0
    less x y e g = subst (λ v. v < cond y 1 0) (sym (ap (λ b. cond b 1 0) e)) (subst (λ v. 0 < v) (sym (ap (λ b. cond b 1 0) g)) (omega arith))

-- ---- at the end

pub arcs_at_last : (instance : Instance) (level : ℕ) (rows : List (List ℕ)) → AreHeights instance rows → level ≤ MAX_LEVELS → IsWideAt instance level rows → ((p q : ℕ) → IsTrue (shares_record instance p q) → HasPartners instance level rows p q) → IsArcs instance level (arc_of rows level)
arcs_at_last instance level rows m small wide served =
    let supported : IsSupported instance level (arc_of rows level) = record {
      in_range = within_range instance level rows m small;
      supported = λ a path member shares. served a.path path shares a.choice member;
    } in
    record {
      supported = supported;
      members = λ a. (λ h. (arc_of rows level, supported, h), λ (family, s, h). wide family s a h);
    }
