-- Dead by a test: what stands outside may be said in other words, and whether a partial assignment is dead is decided.
use Rattle.std.proofs.Common.{◌≡◌, ◌⊎◌, ◌↔◌, ℕ, ◌<◌, Bool, true, false, ◌&&◌, not, List, length, refl, subst, inl, inr, Contains, IsTrue}
use Rattle.std.specs.List.{list_any, range_with_len}
use Rattle.std.proofs.lemmas.Bool.{and_parts, and_from, and_cases, both_ways, not-true, not-false, not_from_false, false_from_ne_true}
use Rattle.std.proofs.lemmas.List.Elements.{All-contains, All-contains_itself}
use Rattle.fapp_model.specs.declared.instance.Instance.{Instance}
use Rattle.fapp_model.specs.declared.literal.Literal.{Literal}
use Rattle.fapp_model.specs.declared.triple.Triple.{Triple}
use Rattle.fapp_model.specs.search.Arcs.{OutsideArc}
use Rattle.fapp_model.specs.Assignments.{count_at}
use Rattle.fapp_model.specs.search.Clashes.{clashes, clashes_with}
use Rattle.fapp_model.specs.search.Dead.{Dead, DeadBy, IsLeastAdded, Remains, least, clash, outside_literal, no_choice_left, over_limit}
use Rattle.fapp_model.specs.Instances.{IsInstance}
use Rattle.fapp_model.specs.Levels.{levels_of}
use Rattle.fapp_model.specs.search.Pairs.{Pair, IsPairAtMost, IsPairBelow, limit_of}
use Rattle.fapp_model.specs.search.Partials.{literal, names, IsLiteral, IsPartial}
use Rattle.fapp_model.specs.Tags.{IsTagOf, has_limit, least_tag, mode_level}
use Rattle.fapp_model.specs.Triples.{IsBelow}
use Rattle.fapp_model.specs.search.Weights.{added_pair, pair_with}
use Rattle.dead_laws.specs.ArcLaws.{IsArcs}
use Rattle.dead_laws.specs.DeadLaws.{AgreeOn}
use Rattle.fapp_model.proofs.Anys.{no-member, none-member, passing}
use Rattle.fapp_model.proofs.Members.{in-range, from-range}
use Rattle.dead_laws.proofs.ArcTest.{InArc-from_greatest, greatest, greatest-from_InArc}
use Rattle.dead_laws.proofs.BestChoices.{BestOf, NonePass, best, best_pair}
use Rattle.dead_laws.proofs.DeadImplied.{small-paths}
use Rattle.dead_laws.proofs.DeadLower.{IsPairAtMost-trans, least_or_above, nothing_below}
use Rattle.dead_laws.proofs.MoreLiterals.{pair-grows}
use Rattle.dead_laws.proofs.PairSums.{below_or_at_most, not_both}
use Rattle.dead_laws.proofs.Picks.{at-names}
use Rattle.fapp_model.proofs.TagParts.{shape_of}

module _ (instance : Instance) (outside other : Literal → Type 0) (agree : AgreeOn instance outside other) where
  remains-back : (level : ℕ) (literals : List Literal) (a : Literal) → IsLiteral instance a → Remains other instance level literals a → Remains outside instance level literals a
  remains-back level literals a at_home r = record { kept = λ out. r.kept ((agree a at_home).0 out); free = r.free }

  remains-along : (level : ℕ) (literals : List Literal) (a : Literal) → IsLiteral instance a → Remains outside instance level literals a → Remains other instance level literals a
  remains-along level literals a at_home r = record { kept = λ out. r.kept ((agree a at_home).1 out); free = r.free }

  least-along : (level : ℕ) (literals : List Literal) (path : ℕ) (pair : Pair) → path < length instance.paths → IsLeastAdded outside instance level literals path pair → IsLeastAdded other instance level literals path pair
  least-along level literals path pair small found = record {
    index = found.index;
    in_range = found.in_range;
    remains = remains-along level literals (literal path found.index) (record { path = small; choice = found.in_range }) found.remains;
    reached = found.reached;
    least = λ index below r. found.least index below (remains-back level literals (literal path index) (record { path = small; choice = below }) r);
  }

  pub dead_by-along : (t : Triple) (literals : List Literal) → IsPartial instance literals → DeadBy outside instance t literals → DeadBy other instance t literals
  dead_by-along t literals partial (least e) = least e
  dead_by-along t literals partial (clash a b first second bad) = clash a b first second bad
  dead_by-along t literals partial (outside_literal a member out) = outside_literal a member ((agree a (All-contains (IsLiteral instance) literals a partial.in_range member)).0 out)
  dead_by-along t literals partial (no_choice_left path small free each) = no_choice_left path small free (λ index below.
      elim (each index below) [
        | inl out ↦ inl ((agree (literal path index) (record { path = small; choice = below })).0 out)
        | inr bad ↦ inr bad
      ])
  dead_by-along t literals partial (over_limit some fewest each most) = over_limit some fewest (λ path small free. least-along (mode_level t) literals path (fewest path) small (each path small free)) most

pub agree-back : (instance : Instance) (outside other : Literal → Type 0) → AgreeOn instance outside other → AgreeOn instance other outside
agree-back instance outside other agree = λ a at_home. ((agree a at_home).1, (agree a at_home).0)

-- whether a choice remains
abbrev pub stays : Instance → ℕ → (Literal → Bool) → List Literal → ℕ → ℕ → Bool
stays instance level excluded literals path index = not (excluded (literal path index)) && not (clashes_with instance level literals (literal path index))

abbrev pub adds : Instance → ℕ → List Literal → ℕ → ℕ → Pair
adds instance level literals path index = added_pair instance level literals (literal path index)

module _ (instance : Instance) (level : ℕ) (excluded : Literal → Bool) (literals : List Literal) where
  pub stays-remains : (path index : ℕ) → stays instance level excluded literals path index ≡ true → Remains (λ a. IsTrue (excluded a)) instance level literals (literal path index)
  stays-remains path index h =
      let parts = and_parts (not (excluded (literal path index))) (not (clashes_with instance level literals (literal path index))) h in
      record { kept = both_ways (excluded (literal path index)) (not-true (excluded (literal path index)) parts.0); free = not-true (clashes_with instance level literals (literal path index)) parts.1 }

  pub remains-stays : (path index : ℕ) → Remains (λ a. IsTrue (excluded a)) instance level literals (literal path index) → stays instance level excluded literals path index ≡ true
  remains-stays path index r =
      and_from (not (excluded (literal path index))) (not (clashes_with instance level literals (literal path index)))
      (not_from_false (excluded (literal path index)) (false_from_ne_true (excluded (literal path index)) r.kept)) (not_from_false (clashes_with instance level literals (literal path index)) r.free)

  pub gone : (path index : ℕ) → stays instance level excluded literals path index ≡ false → IsTrue (excluded (literal path index)) ⊎ IsTrue (clashes_with instance level literals (literal path index))
  gone path index h =
      elim (and_cases (not (excluded (literal path index))) (not (clashes_with instance level literals (literal path index))) h) [
        | inl out ↦ inl (not-false (excluded (literal path index)) out)
        | inr bad ↦ inr (not-false (clashes_with instance level literals (literal path index)) bad)
      ]

  -- the least pair of a path with a choice that stays
  pub least-of : (path : ℕ) → (r : NonePass (stays instance level excluded literals path) (range_with_len 0 (count_at instance path)) ⊎ BestOf (stays instance level excluded literals path) (adds instance level literals path) (range_with_len 0 (count_at instance path))) →
      list_any (stays instance level excluded literals path) (range_with_len 0 (count_at instance path)) ≡ true →
      IsLeastAdded (λ a. IsTrue (excluded a)) instance level literals path (best_pair (stays instance level excluded literals path) (adds instance level literals path) (range_with_len 0 (count_at instance path)) r)
  least-of path (inl none) some = absurd (both_ways (list_any (stays instance level excluded literals path) (range_with_len 0 (count_at instance path))) (no-member (stays instance level excluded literals path) (range_with_len 0 (count_at instance path)) none.fails) some)
  least-of path (inr found) some = record {
    index = found.item;
    in_range = from-range (count_at instance path) found.item found.member;
    remains = stays-remains path found.item found.passes;
    reached = refl;
    least = λ other small r. found.least other (in-range (count_at instance path) other small) (remains-stays path other r);
  }

-- the least pair of each path
abbrev pub least_pairs : Instance → ℕ → (Literal → Bool) → List Literal → ℕ → Pair
least_pairs instance level excluded literals path =
    best_pair (stays instance level excluded literals path) (adds instance level literals path) (range_with_len 0 (count_at instance path))
    (best (stays instance level excluded literals path) (adds instance level literals path) (range_with_len 0 (count_at instance path)))

-- whether no choice of a further path stays
abbrev pub is_stuck : Instance → ℕ → (Literal → Bool) → List Literal → ℕ → Bool
is_stuck instance level excluded literals path = not (names literals path) && not (list_any (stays instance level excluded literals path) (range_with_len 0 (count_at instance path)))

-- whether two literals of a list have a hard-bad record between them
abbrev pub has_clash : Instance → ℕ → List Literal → Bool
has_clash instance level literals = list_any (λ a. clashes_with instance level literals a) literals

pub clash-dead : (outside : Literal → Type 0) (instance : Instance) (t : Triple) (literals : List Literal) → has_clash instance (mode_level t) literals ≡ true → DeadBy outside instance t literals
clash-dead outside instance t literals e =
    let found = passing (λ a. clashes_with instance (mode_level t) literals a) literals e in
    let other = passing (clashes instance (mode_level t) found.item) literals found.passes in
    clash found.item other.item found.member other.member other.passes

pub calm-at : (instance : Instance) (level : ℕ) (literals : List Literal) → has_clash instance level literals ≡ false → (a b : Literal) → Contains literals a → Contains literals b → clashes instance level a b ≡ false
calm-at instance level literals calm a b first second = none-member (clashes instance level a) literals (none-member (λ a. clashes_with instance level literals a) literals calm a first) b second

pub excluded-dead : (excluded : Literal → Bool) (instance : Instance) (t : Triple) (literals : List Literal) → list_any excluded literals ≡ true → DeadBy (λ a. IsTrue (excluded a)) instance t literals
excluded-dead excluded instance t literals e = let found = passing excluded literals e in outside_literal found.item found.member found.passes

pub stuck-dead : (excluded : Literal → Bool) (instance : Instance) (t : Triple) (literals : List Literal) → list_any (is_stuck instance (mode_level t) excluded literals) (range_with_len 0 (length instance.paths)) ≡ true → DeadBy (λ a. IsTrue (excluded a)) instance t literals
stuck-dead excluded instance t literals e =
    let found = passing (is_stuck instance (mode_level t) excluded literals) (range_with_len 0 (length instance.paths)) e in
    let parts = and_parts (not (names literals found.item)) (not (list_any (stays instance (mode_level t) excluded literals found.item) (range_with_len 0 (count_at instance found.item)))) found.passes in
    no_choice_left found.item (from-range (length instance.paths) found.item found.member) (not-true (names literals found.item) parts.0)
    (λ index small. gone instance (mode_level t) excluded literals found.item index
    (none-member (stays instance (mode_level t) excluded literals found.item) (range_with_len 0 (count_at instance found.item)) (not-true _ parts.1) index (in-range (count_at instance found.item) index small)))

-- dead or not, where a test tells what is outside
abbrev pub Judged : (Literal → Bool) → Instance → Triple → List Literal → Type 0
Judged excluded instance t literals = DeadBy (λ a. IsTrue (excluded a)) instance t literals ⊎ (DeadBy (λ a. IsTrue (excluded a)) instance t literals → ⊥)

module _ (instance : Instance) (t : Triple) (excluded : Literal → Bool) (literals : List Literal) (partial : IsPartial instance literals) where
  module _ (calm : has_clash instance (mode_level t) literals ≡ false) (kept : list_any excluded literals ≡ false) (loose : list_any (is_stuck instance (mode_level t) excluded literals) (range_with_len 0 (length instance.paths)) ≡ false) where
    pub choice-stays : (path : ℕ) → path < length instance.paths → names literals path ≡ false → list_any (stays instance (mode_level t) excluded literals path) (range_with_len 0 (count_at instance path)) ≡ true
    choice-stays path small free =
        not-false (list_any (stays instance (mode_level t) excluded literals path) (range_with_len 0 (count_at instance path)))
        (right_false (not (names literals path)) (not (list_any (stays instance (mode_level t) excluded literals path) (range_with_len 0 (count_at instance path)))) (not_from_false (names literals path) free)
        (none-member (is_stuck instance (mode_level t) excluded literals) (range_with_len 0 (length instance.paths)) loose path (in-range (length instance.paths) path small)))
      where
        right_false : (x y : Bool) → x ≡ true → (x && y) ≡ false → y ≡ false
        right_false x y e h = elim (and_cases x y h) [ inl fails ↦ absurd (both_ways x fails e) | inr holds ↦ holds ]

    pub least-pairs : (path : ℕ) → path < length instance.paths → names literals path ≡ false → IsLeastAdded (λ a. IsTrue (excluded a)) instance (mode_level t) literals path (least_pairs instance (mode_level t) excluded literals path)
    least-pairs path small free = least-of instance (mode_level t) excluded literals path
        (best (stays instance (mode_level t) excluded literals path) (adds instance (mode_level t) literals path) (range_with_len 0 (count_at instance path))) (choice-stays path small free)

    pub alive : (t ≡ least_tag → ⊥) → (IsTrue (has_limit t) → IsPairBelow (pair_with instance (mode_level t) literals (least_pairs instance (mode_level t) excluded literals)) (limit_of t)) →
        DeadBy (λ a. IsTrue (excluded a)) instance t literals → ⊥
    alive above under (least e) = above e
    alive above under (clash a b first second bad) =
        both_ways (clashes instance (mode_level t) a b) (calm-at instance (mode_level t) literals calm a b first second) bad
    alive above under (outside_literal a member out) = both_ways (excluded a) (none-member excluded literals kept a member) out
    alive above under (no_choice_left path small free each) =
        both_ways (list_any (stays instance (mode_level t) excluded literals path) (range_with_len 0 (count_at instance path)))
        (no-member (stays instance (mode_level t) excluded literals path) (range_with_len 0 (count_at instance path)) (λ index c. false_from_ne_true (stays instance (mode_level t) excluded literals path index) (λ e.
        let r = stays-remains instance (mode_level t) excluded literals path index e in
        elim (each index (from-range (count_at instance path) index c)) [
          | inl out ↦ r.kept out
          | inr bad ↦ both_ways (clashes_with instance (mode_level t) literals (literal path index)) r.free bad
        ])))
        (choice-stays path small free)
    alive above under (over_limit some fewest each most) =
        let grown = pair-grows instance (mode_level t) literals literals partial.distinct partial.distinct (All-contains_itself literals) (small-paths instance literals partial) fewest (least_pairs instance (mode_level t) excluded literals)
        (λ a c free. absurd (both_ways (names literals a.path) free (at-names literals a c)))
        (λ path small free.
        let found = least-pairs path small free in
        subst (IsPairAtMost (fewest path)) found.reached ((each path small free).least found.index found.in_range found.remains)) in
        not_both (pair_with instance (mode_level t) literals (least_pairs instance (mode_level t) excluded literals)) (limit_of t) (under some)
        (IsPairAtMost-trans (limit_of t) (pair_with instance (mode_level t) literals fewest) (pair_with instance (mode_level t) literals (least_pairs instance (mode_level t) excluded literals)) most grown)

    by_limit : (t ≡ least_tag → ⊥) → (b : Bool) → has_limit t ≡ b → Judged excluded instance t literals
    by_limit above false e = inr (alive above (λ some. absurd (both_ways (has_limit t) e some)))
    by_limit above true e =
        elim (below_or_at_most (pair_with instance (mode_level t) literals (least_pairs instance (mode_level t) excluded literals)) (limit_of t)) [
          | inl less ↦ inr (alive above (λ some. less))
          | inr most ↦ inl (over_limit e (least_pairs instance (mode_level t) excluded literals) least-pairs most)
        ]

  by_stuck : has_clash instance (mode_level t) literals ≡ false → list_any excluded literals ≡ false → (t ≡ least_tag → ⊥) → (b : Bool) → list_any (is_stuck instance (mode_level t) excluded literals) (range_with_len 0 (length instance.paths)) ≡ b → Judged excluded instance t literals
  by_stuck calm kept above true e = inl (stuck-dead excluded instance t literals e)
  by_stuck calm kept above false e = by_limit calm kept e above (has_limit t) refl

  by_kept : has_clash instance (mode_level t) literals ≡ false → (t ≡ least_tag → ⊥) → (b : Bool) → list_any excluded literals ≡ b → Judged excluded instance t literals
  by_kept calm above true e = inl (excluded-dead excluded instance t literals e)
  by_kept calm above false e = by_stuck calm e above (list_any (is_stuck instance (mode_level t) excluded literals) (range_with_len 0 (length instance.paths))) refl

  by_calm : (t ≡ least_tag → ⊥) → (b : Bool) → has_clash instance (mode_level t) literals ≡ b → Judged excluded instance t literals
  by_calm above true e = inl (clash-dead (λ a. IsTrue (excluded a)) instance t literals e)
  by_calm above false e = by_kept e above (list_any excluded literals) refl

  pub judged_or_not : IsTagOf instance t → Judged excluded instance t literals
  judged_or_not tag =
      elim (least_or_above (levels_of instance) t (shape_of instance t tag)) [
        | inl e ↦ inl (least e)
        | inr above ↦ by_calm (λ e. nothing_below least_tag (subst (IsBelow least_tag) e above)) (has_clash instance (mode_level t) literals) refl
      ]

-- outside the arcs is outside a test of them
pub arcs-agree : (instance : Instance) (level : ℕ) (arc : Literal → Bool) → IsArcs instance level arc → AgreeOn instance (OutsideArc instance level) (λ a. IsTrue (not (arc a)))
arcs-agree instance level arc arcs a at_home = (
  λ out. not_from_false (arc a) (false_from_ne_true (arc a) (λ e. out ((arcs.members a).0 e))),
  λ e within. both_ways (arc a) (not-true (arc a) e) ((arcs.members a).1 within),
)

pub arcs-of : (instance : Instance) (level : ℕ) → IsInstance instance → (arc : Literal → Bool) × IsArcs instance level arc
arcs-of instance level valid =
    let found = greatest instance level valid in (
      found.0,
      record {
        supported = found.1.supported;
        members = λ a. (InArc-from_greatest instance level found.0 found.1 a, greatest-from_InArc instance level found.0 found.1 a);
      },
    )

pub dead-judged : (instance : Instance) (t : Triple) (literals : List Literal) (arc : Literal → Bool) → IsPartial instance literals → IsArcs instance (mode_level t) arc → Dead instance t literals ↔ DeadBy (λ a. IsTrue (not (arc a))) instance t literals
dead-judged instance t literals arc partial arcs =
    let agree = arcs-agree instance (mode_level t) arc arcs in (
      dead_by-along instance (OutsideArc instance (mode_level t)) (λ a. IsTrue (not (arc a))) agree t literals partial,
      dead_by-along instance (λ a. IsTrue (not (arc a))) (OutsideArc instance (mode_level t)) (agree-back instance (OutsideArc instance (mode_level t)) (λ a. IsTrue (not (arc a))) agree) t literals partial,
    )

pub dead_or_not : (instance : Instance) (t : Triple) (literals : List Literal) → IsInstance instance → IsTagOf instance t → IsPartial instance literals → Dead instance t literals ⊎ (Dead instance t literals → ⊥)
dead_or_not instance t literals valid tag partial =
    let arcs = arcs-of instance (mode_level t) valid in
    let judged = dead-judged instance t literals arcs.0 partial arcs.1 in
    elim (judged_or_not instance t (λ a. not (arcs.0 a)) literals partial tag) [
      | inl dead ↦ inl (judged.1 dead)
      | inr alive ↦ inr (λ dead. alive (judged.0 dead))
    ]
