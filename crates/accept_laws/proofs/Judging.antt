-- What the test judges dead is dead by the cases.
use Rattle.std.proofs.Common.{◌≡◌, ◌⊎◌, ℕ, ◌<◌, Bool, true, false, ◌||◌, not, List, length, refl, subst, inl, inr, Option, Some, None, is_none, IsTrue}
use Rattle.std.specs.List.{list_any, range_with_len}
use Rattle.std.proofs.lemmas.Bool.{and_parts, and_from, and_cases, or_cases, or_left, or_right, both_ways, not-true, not-false, not_from_false, cases_Bool}
use Rattle.fapp_model.specs.declared.instance.Instance.{Instance}
use Rattle.fapp_model.specs.declared.literal.Literal.{Literal}
use Rattle.fapp_model.specs.declared.triple.Triple.{Triple}
use Rattle.fapp_model.specs.Assignments.{count_at}
use Rattle.fapp_model.specs.search.Clashes.{clashes, clashes_with}
use Rattle.fapp_model.specs.search.Dead as Dead
use Rattle.fapp_model.specs.search.Dead.{DeadBy, IsLeastAdded, Remains, clash, outside_literal, no_choice_left, over_limit}
use Rattle.fapp_model.specs.search.Pairs.{Pair, IsPairAtMost, limit_of}
use Rattle.fapp_model.specs.search.Partials.{literal, names, IsLiteral, IsPartial}
use Rattle.fapp_model.specs.Tags.{has_limit, least_tag, mode_level}
use Rattle.fapp_model.specs.search.Weights.{added_pair, pair_with}
use Rattle.fapp_model.proofs.Anys.{any-member, none-member, passing}
use Rattle.fapp_model.proofs.Members.{in-range, from-range}
use Rattle.dead_laws.proofs.DeadImplied.{small-paths}
use Rattle.dead_laws.proofs.DeadLower.{IsPairAtMost-trans}
use Rattle.dead_laws.proofs.MoreLiterals.{pair-grows}
use Rattle.dead_laws.proofs.Picks.{at-names}
use Rattle.std.proofs.lemmas.List.Elements.{All-contains, All-contains_itself}
use Rattle.cert_lines.specs.acceptance.Judged.{is_pair_at_most, remains, least_pair, or_no_pair, has_clash, is_stuck, is_over, judged_dead}
use Rattle.accept_laws.proofs.PairTests.{pairs-at_most, at_most-pairs}
use Rattle.accept_laws.proofs.LeastFolds.{IsLeastOf, fold-least}

module _ (excluded : Literal → Bool) (instance : Instance) (level : ℕ) (literals : List Literal) where
  abbrev pub stays : ℕ → ℕ → Bool
  stays path index = remains excluded instance level literals (literal path index)

  abbrev pub adds : ℕ → ℕ → Pair
  adds path index = added_pair instance level literals (literal path index)

  pub least : (path : ℕ) → IsLeastOf (stays path) (adds path) (range_with_len 0 (count_at instance path)) (least_pair excluded instance level literals path)
  unfolding least_pair
  least path = fold-least (stays path) (adds path) (range_with_len 0 (count_at instance path))

  pub stays-remains : (a : Literal) → remains excluded instance level literals a ≡ true → Remains (λ b. IsTrue (excluded b)) instance level literals a
  stays-remains a h =
      let parts = and_parts (not (excluded a)) (not (clashes_with instance level literals a)) h in
      record { kept = both_ways (excluded a) (not-true (excluded a) parts.0); free = not-true (clashes_with instance level literals a) parts.1 }

  pub remains-stays : (a : Literal) → Remains (λ b. IsTrue (excluded b)) instance level literals a → remains excluded instance level literals a ≡ true
  remains-stays a r = and_from (not (excluded a)) (not (clashes_with instance level literals a)) (not_from_false (excluded a) (kept (cases_Bool (excluded a)))) (not_from_false (clashes_with instance level literals a) r.free)
    where
      kept : (excluded a ≡ true) ⊎ (excluded a ≡ false) → excluded a ≡ false
      kept (inl h) = absurd (r.kept h)
      kept (inr h) = h

  pub gone : (a : Literal) → remains excluded instance level literals a ≡ false → IsTrue (excluded a) ⊎ IsTrue (clashes_with instance level literals a)
  gone a h = elim (and_cases (not (excluded a)) (not (clashes_with instance level literals a)) h) [
    | inl out ↦ inl (not-false (excluded a) out)
    | inr bad ↦ inr (not-false (clashes_with instance level literals a) bad)
  ]

  none-left : (path : ℕ) (o : Option Pair) → IsLeastOf (stays path) (adds path) (range_with_len 0 (count_at instance path)) o → is_none o ≡ true →
      (index : ℕ) → index < count_at instance path → IsTrue (excluded (literal path index)) ⊎ IsTrue (clashes_with instance level literals (literal path index))
  none-left path None h e = λ index small. gone (literal path index) (h.fails index (in-range (count_at instance path) index small))
  none-left path (Some p) h e = absurd (cc)

  some-least : (path : ℕ) (o : Option Pair) → IsLeastOf (stays path) (adds path) (range_with_len 0 (count_at instance path)) o → is_none o ≡ false →
      IsLeastAdded (λ b. IsTrue (excluded b)) instance level literals path (or_no_pair o)
  some-least path None h e = absurd (cc)
  some-least path (Some p) h e = record {
    index = h.item;
    in_range = from-range (count_at instance path) h.item h.member;
    remains = stays-remains (literal path h.item) h.passes;
    reached = h.reached;
    least = λ other small r. h.least other (in-range (count_at instance path) other small) (remains-stays (literal path other) r);
  }

  pub stuck-path : (path : ℕ) → is_none (least_pair excluded instance level literals path) ≡ true →
      (index : ℕ) → index < count_at instance path → IsTrue (excluded (literal path index)) ⊎ IsTrue (clashes_with instance level literals (literal path index))
  stuck-path path e = none-left path (least_pair excluded instance level literals path) (least path) e

  pub open-path : (path : ℕ) → is_none (least_pair excluded instance level literals path) ≡ false →
      IsLeastAdded (λ b. IsTrue (excluded b)) instance level literals path (or_no_pair (least_pair excluded instance level literals path))
  open-path path e = some-least path (least_pair excluded instance level literals path) (least path) e

module _ (excluded : Literal → Bool) (instance : Instance) (t : Triple) (literals : List Literal) where
  clash-dead : has_clash instance (mode_level t) literals ≡ true → DeadBy (λ a. IsTrue (excluded a)) instance t literals
  clash-dead e =
      let found = passing (clashes_with instance (mode_level t) literals) literals e in
      let other = passing (clashes instance (mode_level t) found.item) literals found.passes in
      clash found.item other.item found.member other.member other.passes

  excluded-dead : list_any excluded literals ≡ true → DeadBy (λ a. IsTrue (excluded a)) instance t literals
  excluded-dead e = let found = passing excluded literals e in outside_literal found.item found.member found.passes

  stuck-dead : list_any (is_stuck excluded instance (mode_level t) literals) (range_with_len 0 (length instance.paths)) ≡ true → DeadBy (λ a. IsTrue (excluded a)) instance t literals
  stuck-dead e =
      let found = passing (is_stuck excluded instance (mode_level t) literals) (range_with_len 0 (length instance.paths)) e in
      let parts = and_parts (not (names literals found.item)) (is_none (least_pair excluded instance (mode_level t) literals found.item)) found.passes in
      no_choice_left found.item (from-range (length instance.paths) found.item found.member) (not-true (names literals found.item) parts.0)
      (stuck-path excluded instance (mode_level t) literals found.item parts.1)

  pub left-open : list_any (is_stuck excluded instance (mode_level t) literals) (range_with_len 0 (length instance.paths)) ≡ false → (path : ℕ) → path < length instance.paths → names literals path ≡ false → is_none (least_pair excluded instance (mode_level t) literals path) ≡ false
  left-open loose path small free =
      elim (and_cases (not (names literals path)) (is_none (least_pair excluded instance (mode_level t) literals path))
      (none-member (is_stuck excluded instance (mode_level t) literals) (range_with_len 0 (length instance.paths)) loose path (in-range (length instance.paths) path small))) [
        | inl named ↦ absurd (both_ways (names literals path) free (not-false (names literals path) named))
        | inr some ↦ some
      ]

  over-dead : list_any (is_stuck excluded instance (mode_level t) literals) (range_with_len 0 (length instance.paths)) ≡ false → is_over excluded instance t literals ≡ true → DeadBy (λ a. IsTrue (excluded a)) instance t literals
  over-dead loose e =
      let fewest : ℕ → Pair = λ path. or_no_pair (least_pair excluded instance (mode_level t) literals path) in
      let parts = and_parts (has_limit t) (is_pair_at_most (limit_of t) (pair_with instance (mode_level t) literals fewest)) e in
      over_limit parts.0 fewest (λ path small free. open-path excluded instance (mode_level t) literals path (left-open loose path small free))
      (pairs-at_most (limit_of t) (pair_with instance (mode_level t) literals fewest) parts.1)

  pub judged-dead : judged_dead excluded instance t literals ≡ true → DeadBy (λ a. IsTrue (excluded a)) instance t literals
  unfolding judged_dead
  judged-dead h = by_clash (cases_Bool (has_clash instance (mode_level t) literals))
    where
      open-stuck : (b : Bool) → list_any (is_stuck excluded instance (mode_level t) literals) (range_with_len 0 (length instance.paths)) ≡ b → (b || is_over excluded instance t literals) ≡ true → DeadBy (λ a. IsTrue (excluded a)) instance t literals
      open-stuck true e g = stuck-dead e
      open-stuck false e g = over-dead e g

      by_excluded : (list_any excluded literals || (list_any (is_stuck excluded instance (mode_level t) literals) (range_with_len 0 (length instance.paths)) || is_over excluded instance t literals)) ≡ true → DeadBy (λ a. IsTrue (excluded a)) instance t literals
      by_excluded g = elim (or_cases (list_any excluded literals) (list_any (is_stuck excluded instance (mode_level t) literals) (range_with_len 0 (length instance.paths)) || is_over excluded instance t literals) g) [
        | inl out ↦ excluded-dead out
        | inr more ↦ open-stuck (list_any (is_stuck excluded instance (mode_level t) literals) (range_with_len 0 (length instance.paths))) refl more
      ]

      by_clash : (has_clash instance (mode_level t) literals ≡ true) ⊎ (has_clash instance (mode_level t) literals ≡ false) → DeadBy (λ a. IsTrue (excluded a)) instance t literals
      by_clash (inl e) = clash-dead e
      by_clash (inr e) = by_excluded (subst (λ b. (b || (list_any excluded literals || (list_any (is_stuck excluded instance (mode_level t) literals) (range_with_len 0 (length instance.paths)) || is_over excluded instance t literals))) ≡ true) e h)

-- The other way: what is dead by the cases at a tag above the least is judged so, where each literal that stands outside
-- is excluded.
module _ (outside : Literal → Type 0) (excluded : Literal → Bool) (instance : Instance) (t : Triple) (literals : List Literal) (partial : IsPartial instance literals)
    (covers : (a : Literal) → IsLiteral instance a → outside a → IsTrue (excluded a)) where
  abbrev pub stuck : Bool
  stuck = list_any (is_stuck excluded instance (mode_level t) literals) (range_with_len 0 (length instance.paths))

  abbrev pub parts : Bool
  parts = has_clash instance (mode_level t) literals || (list_any excluded literals || (stuck || is_over excluded instance t literals))

  at-home : (path index : ℕ) → path < length instance.paths → index < count_at instance path → IsLiteral instance (literal path index)
  at-home path index small below = record { path = small; choice = below }

  -- what remains where more is excluded remained before
  remains-before : (path index : ℕ) → path < length instance.paths → index < count_at instance path →
      Remains (λ a. IsTrue (excluded a)) instance (mode_level t) literals (literal path index) → Remains outside instance (mode_level t) literals (literal path index)
  remains-before path index small below r = record { kept = λ out. r.kept (covers (literal path index) (at-home path index small below) out); free = r.free }

  no-pair : (path : ℕ) → path < length instance.paths → ((index : ℕ) → index < count_at instance path → outside (literal path index) ⊎ IsTrue (clashes_with instance (mode_level t) literals (literal path index))) →
      (o : Option Pair) → IsLeastOf (stays excluded instance (mode_level t) literals path) (adds excluded instance (mode_level t) literals path) (range_with_len 0 (count_at instance path)) o → is_none o ≡ true
  no-pair path small each None h = refl
  no-pair path small each (Some p) h =
      let below = from-range (count_at instance path) h.item h.member in
      let r = stays-remains excluded instance (mode_level t) literals (literal path h.item) h.passes in
      absurd (elim (each h.item below) [
        | inl out ↦ r.kept (covers (literal path h.item) (at-home path h.item small below) out)
        | inr bad ↦ both_ways (clashes_with instance (mode_level t) literals (literal path h.item)) r.free bad
      ])

  stuck-from : (path : ℕ) → path < length instance.paths → names literals path ≡ false →
      ((index : ℕ) → index < count_at instance path → outside (literal path index) ⊎ IsTrue (clashes_with instance (mode_level t) literals (literal path index))) → stuck ≡ true
  stuck-from path small free each =
      any-member (is_stuck excluded instance (mode_level t) literals) (range_with_len 0 (length instance.paths)) path (in-range (length instance.paths) path small)
      (and_from (not (names literals path)) (is_none (least_pair excluded instance (mode_level t) literals path)) (not_from_false (names literals path) free)
      (no-pair path small each (least_pair excluded instance (mode_level t) literals path) (least excluded instance (mode_level t) literals path)))

  over-from : stuck ≡ false → IsTrue (has_limit t) → (fewest : ℕ → Pair) →
      ((path : ℕ) → path < length instance.paths → names literals path ≡ false → IsLeastAdded outside instance (mode_level t) literals path (fewest path)) →
      IsPairAtMost (limit_of t) (pair_with instance (mode_level t) literals fewest) → is_over excluded instance t literals ≡ true
  over-from loose some fewest each most =
      let own : ℕ → Pair = λ path. or_no_pair (least_pair excluded instance (mode_level t) literals path) in
      let grown = pair-grows instance (mode_level t) literals literals partial.distinct partial.distinct (All-contains_itself literals) (small-paths instance literals partial) fewest own
      (λ a c free. absurd (both_ways (names literals a.path) free (at-names literals a c)))
      (λ path small free.
      let found = open-path excluded instance (mode_level t) literals path (left-open excluded instance t literals loose path small free) in
      subst (IsPairAtMost (fewest path)) found.reached ((each path small free).least found.index found.in_range (remains-before path found.index small found.in_range found.remains))) in
      and_from (has_limit t) (is_pair_at_most (limit_of t) (pair_with instance (mode_level t) literals own)) some
      (at_most-pairs (limit_of t) (pair_with instance (mode_level t) literals own)
      (IsPairAtMost-trans (limit_of t) (pair_with instance (mode_level t) literals fewest) (pair_with instance (mode_level t) literals own) most grown))

  from-clash : has_clash instance (mode_level t) literals ≡ true → parts ≡ true
  from-clash h = or_left (has_clash instance (mode_level t) literals) (list_any excluded literals || (stuck || is_over excluded instance t literals)) h

  from-excluded : list_any excluded literals ≡ true → parts ≡ true
  from-excluded h = or_right (has_clash instance (mode_level t) literals) (list_any excluded literals || (stuck || is_over excluded instance t literals)) (or_left (list_any excluded literals) (stuck || is_over excluded instance t literals) h)

  from-rest : (stuck || is_over excluded instance t literals) ≡ true → parts ≡ true
  from-rest h = or_right (has_clash instance (mode_level t) literals) (list_any excluded literals || (stuck || is_over excluded instance t literals)) (or_right (list_any excluded literals) (stuck || is_over excluded instance t literals) h)

  dead-parts : (t ≡ least_tag → ⊥) → DeadBy outside instance t literals → parts ≡ true
  dead-parts above (Dead.least e) = absurd (above e)
  dead-parts above (clash a b first second bad) = from-clash (any-member (clashes_with instance (mode_level t) literals) literals a first (any-member (clashes instance (mode_level t) a) literals b second bad))
  dead-parts above (outside_literal a member out) = from-excluded (any-member excluded literals a member (covers a (All-contains (IsLiteral instance) literals a partial.in_range member) out))
  dead-parts above (no_choice_left path small free each) = from-rest (or_left stuck (is_over excluded instance t literals) (stuck-from path small free each))
  dead-parts above (over_limit some fewest each most) = from-rest (by_stuck (cases_Bool stuck))
    where
      by_stuck : (stuck ≡ true) ⊎ (stuck ≡ false) → (stuck || is_over excluded instance t literals) ≡ true
      by_stuck (inl e) = or_left stuck (is_over excluded instance t literals) e
      by_stuck (inr e) = or_right stuck (is_over excluded instance t literals) (over-from e some fewest each most)

  pub judged-where-excluded : (t ≡ least_tag → ⊥) → DeadBy outside instance t literals → judged_dead excluded instance t literals ≡ true
  unfolding judged_dead
  judged-where-excluded above dead = dead-parts above dead

pub dead-judged : (excluded : Literal → Bool) (instance : Instance) (t : Triple) (literals : List Literal) → IsPartial instance literals → (t ≡ least_tag → ⊥) → DeadBy (λ a. IsTrue (excluded a)) instance t literals → judged_dead excluded instance t literals ≡ true
dead-judged excluded instance t literals partial above dead = judged-where-excluded (λ a. IsTrue (excluded a)) excluded instance t literals partial (λ a home out. out) above dead
