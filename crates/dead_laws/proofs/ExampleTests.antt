-- Arcs and dead partial assignments of small instances by tests that are computed.
use Rattle.std.proofs.Common.{◌≡◌, ◌≢◌, ℕ, ◌<◌, Bool, true, false, ◌&&◌, ltb, List, [], ◌∷◌, length, All, IsTrue, refl, sym, arith}
use Rattle.std.specs.List.{list_all, list_any, range_with_len}
use Rattle.std.proofs.lemmas.Bool.{and_parts, and_from, both_ways, lt-ltb, ltb-true, true≢false}
use Rattle.std.proofs.lemmas.List.Elements.{All-contains, All-cons, All-nil}
use Rattle.std.proofs.lemmas.List.Kept.{AllPairs-cons}
use Rattle.std.proofs.lemmas.List.Sums.{AllPass-from_list_all}
use Rattle.fapp_model.specs.declared.instance.Instance.{Instance}
use Rattle.fapp_model.specs.declared.literal.Literal.{Literal}
use Rattle.fapp_model.specs.declared.triple.Triple.{Triple}
use Rattle.fapp_model.specs.search.Arcs.{InArc, OutsideArc}
use Rattle.fapp_model.specs.Assignments.{count_at}
use Rattle.fapp_model.specs.search.Clashes.{clashes, shares_record}
use Rattle.fapp_model.specs.search.Dead.{Dead}
use Rattle.fapp_model.specs.Instances.{IsInstance}
use Rattle.fapp_model.specs.search.Pairs.{IsPairBelow, limit_of}
use Rattle.fapp_model.specs.search.Partials.{literal, IsLiteral, IsPartial}
use Rattle.fapp_model.specs.Tags.{has_limit, least_tag, mode_level}
use Rattle.fapp_model.specs.search.Weights.{pair_with}
use Rattle.dead_laws.specs.DeadLaws.{AgreeOn}
use Rattle.fapp_model.proofs.Anys.{no-member}
use Rattle.fapp_model.proofs.Members.{in-range}
use Rattle.dead_laws.proofs.ArcTest.{has_lonely, supported-by_test}
use Rattle.dead_laws.proofs.DeadTests.{alive, dead_by-along, has_clash, is_stuck, least_pairs}

-- whether each number below another passes a test
abbrev pub all_below : ℕ → (ℕ → Bool) → Bool
all_below n p = list_all p (range_with_len 0 n)

-- what such a test says of each
pub below-all : (n : ℕ) (p : ℕ → Bool) → all_below n p ≡ true → (m : ℕ) → m < n → p m ≡ true
below-all n p h m small = All-contains (λ k. p k ≡ true) (range_with_len 0 n) m (AllPass-from_list_all p (range_with_len 0 n) h) (in-range n m small)

-- the same of each three
pub below-three : (n : ℕ) (p : ℕ → ℕ → ℕ → Bool) → all_below n (λ i. all_below n (λ j. all_below n (p i j))) ≡ true → (i j k : ℕ) → i < n → j < n → k < n → p i j k ≡ true
below-three n p h i j k small_i small_j small_k =
    below-all n (p i j)
    (below-all n (λ b. all_below n (p i b)) (below-all n (λ a. all_below n (λ b. all_below n (p a b))) h i small_i) j small_j)
    k small_k

-- ---- outside

-- whether a literal clashes with each choice of a path
abbrev pub is_alone : Instance → Literal → ℕ → ℕ → Bool
is_alone instance a path level = all_below (count_at instance path) (λ index. clashes instance level a (literal path index))

alone-outside : (instance : Instance) (level : ℕ) (a : Literal) (path : ℕ) → shares_record instance a.path path ≡ true → is_alone instance a path level ≡ true → OutsideArc instance level a
alone-outside instance level a path shares alone (family, supported, member) =
    let friend = supported.supported a path member shares in
    let small = (supported.in_range (literal path friend.index) friend.member).choice in
    both_ways (clashes instance level a (literal path friend.index)) friend.apart
    (below-all (count_at instance path) (λ index. clashes instance level a (literal path index)) alone friend.index small)

pub outside-below : (instance : Instance) (a : Literal) (path levels : ℕ) → shares_record instance a.path path ≡ true → all_below levels (is_alone instance a path) ≡ true → (level : ℕ) → level < levels → OutsideArc instance level a
outside-below instance a path levels shares alone level small = alone-outside instance level a path shares (below-all levels (is_alone instance a path) alone level small)

-- ---- inside

-- all choices
abbrev pub each_choice : Instance → Literal → Bool
each_choice instance a = ltb a.path (length instance.paths) && ltb a.choice (count_at instance a.path)

pub each-literal : (instance : Instance) (a : Literal) → each_choice instance a ≡ true → IsLiteral instance a
each-literal instance a h =
    let parts = and_parts (ltb a.path (length instance.paths)) (ltb a.choice (count_at instance a.path)) h in
    record { path = ltb-true a.path (length instance.paths) parts.0; choice = ltb-true a.choice (count_at instance a.path) parts.1 }

literal-each : (instance : Instance) (a : Literal) → IsLiteral instance a → each_choice instance a ≡ true
literal-each instance a h =
    and_from (ltb a.path (length instance.paths)) (ltb a.choice (count_at instance a.path))
    (lt-ltb a.path (length instance.paths) h.path) (lt-ltb a.choice (count_at instance a.path) h.choice)

pub inside-by : (instance : Instance) (level : ℕ) (family : Literal → Bool) → IsInstance instance → ((a : Literal) → family a ≡ true → IsLiteral instance a) → has_lonely instance level family ≡ false → (a : Literal) → family a ≡ true → InArc instance level a
inside-by instance level family valid in_range none a member = (family, supported-by_test instance level family valid in_range none, member)

-- where no choice lacks a partner
pub each-inside : (instance : Instance) (level : ℕ) → IsInstance instance → has_lonely instance level (each_choice instance) ≡ false → (a : Literal) → IsLiteral instance a → InArc instance level a
each-inside instance level valid none a h = inside-by instance level (each_choice instance) valid (each-literal instance) none a (literal-each instance a h)

-- ---- partial assignments

pub no-literals : (instance : Instance) → IsPartial instance []
no-literals instance = record { in_range = All-nil (IsLiteral instance); distinct = λ i j d l m. absurd (omega arith) }

pub one-more : (instance : Instance) (a : Literal) (literals : List Literal) → IsLiteral instance a → All (λ b. a.path ≢ b.path) literals → IsPartial instance literals → IsPartial instance (a ∷ literals)
one-more instance a literals h apart partial = record {
  in_range = All-cons (IsLiteral instance) a literals h partial.in_range;
  distinct = AllPairs-cons (λ a b. a.path ≢ b.path) a literals apart partial.distinct;
}

-- ---- not dead, where no choice lacks a partner

module _ (instance : Instance) (t : Triple) (literals : List Literal) (partial : IsPartial instance literals) (valid : IsInstance instance) (none : has_lonely instance (mode_level t) (each_choice instance) ≡ false) where
  agree : AgreeOn instance (OutsideArc instance (mode_level t)) (λ a. false ≡ true)
  agree a h = (λ out. absurd (out (each-inside instance (mode_level t) valid none a h)), λ e. absurd (true≢false (sym e)))

  pub lives : has_clash instance (mode_level t) literals ≡ false →
      list_any (is_stuck instance (mode_level t) (λ a. false) literals) (range_with_len 0 (length instance.paths)) ≡ false →
      (t ≡ least_tag → ⊥) →
      (IsTrue (has_limit t) → IsPairBelow (pair_with instance (mode_level t) literals (least_pairs instance (mode_level t) (λ a. false) literals)) (limit_of t)) →
      Dead instance t literals → ⊥
  lives calm loose above under dead =
      alive instance t (λ a. false) literals partial calm (no-member (λ a. false) literals (λ x c. refl)) loose above under
      (dead_by-along instance (OutsideArc instance (mode_level t)) (λ a. false ≡ true) agree t literals partial dead)
