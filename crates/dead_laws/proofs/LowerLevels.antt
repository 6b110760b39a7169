-- At a lower level more records are hard-bad, and fewer choices are in the arcs.
use Rattle.std.proofs.Common.{◌≡◌, ℕ, ◌+◌, ◌-◌, ◌<◌, ◌≤◌, Bool, true, false, ◌&&◌, cond, List, refl, inl, inr, arith, Contains, sum_by}
use Rattle.std.proofs.lemmas.Bool.{and_parts, and_from, or_cases, or_left, or_right, false_from_ne_true, both_ways, cases_lt}
use Rattle.std.proofs.lemmas.List.Elements.{All-contains}
use Rattle.fapp_model.specs.declared.choice.Choice.{Choice}
use Rattle.fapp_model.specs.declared.instance.Instance.{Instance}
use Rattle.fapp_model.specs.declared.literal.Literal.{Literal}
use Rattle.fapp_model.specs.declared.record.Record.{Record}
use Rattle.fapp_model.specs.search.Arcs.{InArc, IsSupported, OutsideArc}
use Rattle.fapp_model.specs.search.Clashes.{joins, is_hard_bad, blocks, clashes, clashes_with}
use Rattle.fapp_model.specs.Instances.{IsInstance, HasNumbers}
use Rattle.fapp_model.specs.Levels.{levels_of}
use Rattle.fapp_model.specs.search.Partials.{choice_of, literal}
use Rattle.fapp_model.specs.Records.{is_bad, is_broken}
use Rattle.fapp_model.specs.search.Weights.{added, bad_before, between, inside}
use Rattle.fapp_model.proofs.Anys.{passing, any-member, positive-sum_by}
use Rattle.fapp_model.proofs.Violations.{bad_lower, numbers_of}

hard_bad_lower : (levels : ℕ) (r : Record) → HasNumbers levels r → (m n : ℕ) → m ≤ n → (a b : Choice) → is_hard_bad n r a b ≡ true → is_hard_bad m r a b ≡ true
hard_bad_lower levels r d m n h a b e =
    elim (or_cases (is_broken r a b) (is_bad n r a b) e) [
      | inl broken ↦ or_left (is_broken r a b) (is_bad m r a b) broken
      | inr bad ↦ or_right (is_broken r a b) (is_bad m r a b) (bad_lower levels r d m n h a b bad)
    ]

pub numbers_at : (instance : Instance) → IsInstance instance → (r : Record) → Contains instance.records r → HasNumbers (levels_of instance) r
numbers_at instance v r c = All-contains (HasNumbers (levels_of instance)) instance.records r (numbers_of instance v) c

blocks_lower : (instance : Instance) → IsInstance instance → (m n : ℕ) → m ≤ n → (a b : Literal) → blocks instance n a b ≡ true → blocks instance m a b ≡ true
blocks_lower instance v m n h a b e =
    let found = passing (λ r. joins a.path b.path r && is_hard_bad n r (choice_of instance a) (choice_of instance b)) instance.records e in
    let parts = and_parts (joins a.path b.path found.item) (is_hard_bad n found.item (choice_of instance a) (choice_of instance b)) found.passes in
    any-member (λ r. joins a.path b.path r && is_hard_bad m r (choice_of instance a) (choice_of instance b)) instance.records found.item found.member
    (and_from _ _ parts.0 (hard_bad_lower (levels_of instance) found.item (numbers_at instance v found.item found.member) m n h (choice_of instance a) (choice_of instance b) parts.1))

pub clashes_lower : (instance : Instance) → IsInstance instance → (m n : ℕ) → m ≤ n → (a b : Literal) → clashes instance n a b ≡ true → clashes instance m a b ≡ true
clashes_lower instance v m n h a b e =
    elim (or_cases (blocks instance n a b) (blocks instance n b a) e) [
      | inl front ↦ or_left (blocks instance m a b) (blocks instance m b a) (blocks_lower instance v m n h a b front)
      | inr back ↦ or_right (blocks instance m a b) (blocks instance m b a) (blocks_lower instance v m n h b a back)
    ]

pub clashes_with_lower : (instance : Instance) → IsInstance instance → (m n : ℕ) → m ≤ n → (literals : List Literal) (a : Literal) → clashes_with instance n literals a ≡ true → clashes_with instance m literals a ≡ true
clashes_with_lower instance v m n h literals a e =
    let found = passing (clashes instance n a) literals e in
    any-member (clashes instance m a) literals found.item found.member (clashes_lower instance v m n h a found.item found.passes)

apart_higher : (instance : Instance) → IsInstance instance → (m n : ℕ) → m ≤ n → (a b : Literal) → clashes instance m a b ≡ false → clashes instance n a b ≡ false
apart_higher instance v m n h a b e = false_from_ne_true (clashes instance n a b) (λ bad. both_ways (clashes instance m a b) e (clashes_lower instance v m n h a b bad))

pub free_higher : (instance : Instance) → IsInstance instance → (m n : ℕ) → m ≤ n → (literals : List Literal) (a : Literal) → clashes_with instance m literals a ≡ false → clashes_with instance n literals a ≡ false
free_higher instance v m n h literals a e = false_from_ne_true (clashes_with instance n literals a) (λ bad. both_ways (clashes_with instance m literals a) e (clashes_with_lower instance v m n h literals a bad))

supported_higher : (instance : Instance) → IsInstance instance → (m n : ℕ) → m ≤ n → (family : Literal → Bool) → IsSupported instance m family → IsSupported instance n family
supported_higher instance v m n h family s = record {
  in_range = s.in_range;
  supported = λ a path member shares. let friend = s.supported a path member shares in
      record { index = friend.index; member = friend.member; apart = apart_higher instance v m n h a (literal path friend.index) friend.apart };
}

pub InArc_higher : (instance : Instance) → IsInstance instance → (m n : ℕ) → m ≤ n → (a : Literal) → InArc instance m a → InArc instance n a
InArc_higher instance v m n h a (family, s, member) = (family, supported_higher instance v m n h family s, member)

pub outside_lower : (instance : Instance) → IsInstance instance → (m n : ℕ) → m ≤ n → (a : Literal) → OutsideArc instance n a → OutsideArc instance m a
outside_lower instance v m n h a out = λ within. out (InArc_higher instance v m n h a within)

-- what adds one level below is hard-bad there
cond-positive : (b : Bool) (n : ℕ) → 0 < cond b n 0 → (b ≡ true) × (0 < n)
cond-positive true n h = (refl, h)
cond-positive false n h = absurd (omega arith)

pub between_blocks : (instance : Instance) → IsInstance instance → (m n : ℕ) → m ≤ n - 1 → (a b : Literal) → 0 < between instance (bad_before n) a b → blocks instance m a b ≡ true
between_blocks instance v m n h a b some =
    let found = positive-sum_by (λ r. cond (joins a.path b.path r) (bad_before n r (choice_of instance a) (choice_of instance b)) 0) instance.records some in
    let joined = cond-positive (joins a.path b.path found.item) (bad_before n found.item (choice_of instance a) (choice_of instance b)) found.positive in
    let bad = cond-positive (is_bad (n - 1) found.item (choice_of instance a) (choice_of instance b)) 1 joined.1 in
    any-member (λ r. joins a.path b.path r && is_hard_bad m r (choice_of instance a) (choice_of instance b)) instance.records found.item found.member
    (and_from _ _ joined.0 (or_right (is_broken found.item (choice_of instance a) (choice_of instance b)) (is_bad m found.item (choice_of instance a) (choice_of instance b))
    (bad_lower (levels_of instance) found.item (numbers_at instance v found.item found.member) m (n - 1) h (choice_of instance a) (choice_of instance b) bad.0)))

pub added_clashes : (instance : Instance) → IsInstance instance → (m n : ℕ) → m ≤ n - 1 → (literals : List Literal) (a : Literal) → 0 < added instance (bad_before n) literals a → clashes_with instance m literals a ≡ true
added_clashes instance v m n h literals a some =
    let found = positive-sum_by (λ b. between instance (bad_before n) a b + between instance (bad_before n) b a) literals some in
    any-member (clashes instance m a) literals found.item found.member
    (elim (cases_lt 0 (between instance (bad_before n) a found.item)) [
      | inl front ↦ or_left (blocks instance m a found.item) (blocks instance m found.item a) (between_blocks instance v m n h a found.item front)
      | inr none ↦ or_right (blocks instance m a found.item) (blocks instance m found.item a) (between_blocks instance v m n h found.item a (omega (arith, found.positive)))
    ])

-- two literals of a list clash
pub record Clashing (instance : Instance) (level : ℕ) (literals : List Literal) : Type 0 where
  pub first : Literal
  pub second : Literal
  pub first_in : Contains literals first
  pub second_in : Contains literals second
  pub clash : clashes instance level first second ≡ true

pub inside_clashes : (instance : Instance) → IsInstance instance → (m n : ℕ) → m ≤ n - 1 → (literals : List Literal) → 0 < inside instance (bad_before n) literals → Clashing instance m literals
inside_clashes instance v m n h literals some =
    let outer = positive-sum_by (λ a. sum_by (λ b. between instance (bad_before n) a b) literals) literals some in
    let inner = positive-sum_by (λ b. between instance (bad_before n) outer.item b) literals outer.positive in
    record {
      first = outer.item;
      second = inner.item;
      first_in = outer.member;
      second_in = inner.member;
      clash = or_left (blocks instance m outer.item inner.item) (blocks instance m inner.item outer.item) (between_blocks instance v m n h outer.item inner.item inner.positive);
    }
