-- Paths that share no record with the literals add nothing, and are stuck only where all of their choices are excluded.
use Rattle.std.proofs.Common.{◌≡◌, ℕ, ◌+◌, ◌<◌, Bool, true, false, not, ◌&&◌, cond, List, [], ◌∷◌, length, get_or, refl, ap, sym, ◌∙◌, inl, inr, arith, All, Option, Some, None, is_none}
use Rattle.std.specs.List.{list_all, range_with_len}
use Rattle.std.proofs.lemmas.Bool.{and_from, and_parts, and_cases, both_ways, not-true, not-false, false_from_ne_true, and_left, and_right}
use Rattle.std.proofs.lemmas.List.Elements.{All-head, All-tail, All-contains, Contains-get_or}
use Rattle.std.proofs.lemmas.List.Folds.{list_any_none}
use Rattle.std.proofs.lemmas.List.Sums.{AllPass-from_list_all}
use Rattle.fapp_model.specs.declared.choice.Choice.{Choice}
use Rattle.fapp_model.specs.declared.instance.Instance.{Instance}
use Rattle.fapp_model.specs.declared.literal.Literal.{Literal}
use Rattle.fapp_model.specs.declared.record.Record.{Record}
use Rattle.fapp_model.specs.Assignments.{count_at}
use Rattle.fapp_model.specs.search.Clashes.{clashes_with}
use Rattle.fapp_model.specs.search.Pairs.{Pair}
use Rattle.fapp_model.specs.search.Partials.{literal, names}
use Rattle.fapp_model.specs.search.Weights.{added, added_pair, bad_before, bad_further}
use Rattle.fapp_model.proofs.Sums.{sum_by-none}
use Rattle.cert_lines.specs.acceptance.Judged.{no_pair, remains, least_pair, or_no_pair}
use Rattle.accept_laws.proofs.Judging.{least}
use Rattle.accept_laws.proofs.LeastFolds.{IsLeastOf}
use Rattle.cert_check.specs.declared.exclusion.Scene.{Scene}
use Rattle.cert_check.specs.declared.weight.Weight.{Weight}
use Rattle.cert_check.specs.RecordsNamed.{ties_of, clashes_at, between_at}
use Rattle.cert_check.specs.Scenes.{excluded_by}
use Rattle.cert_check.specs.Weighed.{IsNear, IsStep, near_at, stuck_by, least_by}
use Rattle.cert_check.proofs.Ties.{clashes_with-at, added-at}

all-passing : {X : Type 0} (p : X → Bool) (xs : List X) → All (λ x. p x ≡ true) xs → list_all p xs ≡ true
all-passing p [] h = refl
all-passing p (x ∷ xs) h = and_from (p x) (list_all p xs) (All-head (λ y. p y ≡ true) x xs h) (all-passing p xs (All-tail (λ y. p y ≡ true) x xs h))

module _ (instance : Instance) (literals : List Literal) (path : ℕ) (far : ties_of instance literals path ≡ []) where
  pub far-free : (level index : ℕ) → clashes_with instance level literals (literal path index) ≡ false
  far-free level index =
      sym (clashes_with-at instance literals (literal path index) level [] (sym far))
      ∙ list_any_none (clashes_at instance [] level (literal path index)) literals (λ k d l. refl)

  pub far-added : (measure : Record → Choice → Choice → ℕ) (index : ℕ) → added instance measure literals (literal path index) ≡ 0
  far-added measure index =
      sym (added-at instance literals (literal path index) measure [] (sym far))
      ∙ sum_by-none (λ b. between_at instance [] measure (literal path index) b + between_at instance [] measure b (literal path index)) literals (λ k d l. refl)

  abbrev pair : ℕ → ℕ → Pair
  pair v s = record { v = v; s = s }

  pub far-pair : (level index : ℕ) → added_pair instance level literals (literal path index) ≡ no_pair
  far-pair level index = ap (λ (n : ℕ). pair n (added instance (bad_further level) literals (literal path index))) (far-added (bad_before level) index) ∙ ap (pair 0) (far-added (bad_further level) index)

  module _ (excluded : Literal → Bool) (level : ℕ) where
    by-least : (o : Option Pair) → IsLeastOf (λ index. remains excluded instance level literals (literal path index)) (λ index. added_pair instance level literals (literal path index)) (range_with_len 0 (count_at instance path)) o → or_no_pair o ≡ no_pair
    by-least None h = refl
    by-least (Some p) h = sym h.reached ∙ far-pair level h.item

    pub far-least : or_no_pair (least_pair excluded instance level literals path) ≡ no_pair
    far-least = by-least (least_pair excluded instance level literals path) (least excluded instance level literals path)

    out : (index : ℕ) → remains excluded instance level literals (literal path index) ≡ false → excluded (literal path index) ≡ true
    out index h = elim (and_cases (not (excluded (literal path index))) (not (clashes_with instance level literals (literal path index))) h) [
      | inl e ↦ not-false (excluded (literal path index)) e
      | inr e ↦ absurd (both_ways (clashes_with instance level literals (literal path index)) (far-free level index) (not-false (clashes_with instance level literals (literal path index)) e))
    ]

    by-none : (o : Option Pair) → IsLeastOf (λ index. remains excluded instance level literals (literal path index)) (λ index. added_pair instance level literals (literal path index)) (range_with_len 0 (count_at instance path)) o →
        is_none o ≡ list_all (λ index. excluded (literal path index)) (range_with_len 0 (count_at instance path))
    by-none None h = sym (all-passing (λ index. excluded (literal path index)) (range_with_len 0 (count_at instance path)) (λ k d l. out (get_or (range_with_len 0 (count_at instance path)) k d) (h.fails (get_or (range_with_len 0 (count_at instance path)) k d) (Contains-get_or (range_with_len 0 (count_at instance path)) k d l))))
    by-none (Some p) h = sym (false_from_ne_true (list_all (λ index. excluded (literal path index)) (range_with_len 0 (count_at instance path))) (λ e.
        let gone = All-contains (λ index. excluded (literal path index) ≡ true) (range_with_len 0 (count_at instance path)) h.item (AllPass-from_list_all (λ index. excluded (literal path index)) (range_with_len 0 (count_at instance path)) e) h.member in
        let kept = and_parts (not (excluded (literal path h.item))) (not (clashes_with instance level literals (literal path h.item))) h.passes in
        both_ways (excluded (literal path h.item)) (not-true (excluded (literal path h.item)) kept.0) gone))

    -- stuck where all choices are excluded
    pub far-none : is_none (least_pair excluded instance level literals path) ≡ list_all (λ index. excluded (literal path index)) (range_with_len 0 (count_at instance path))
    far-none = by-none (least_pair excluded instance level literals path) (least excluded instance level literals path)

cond-zero : (b : Bool) → ◌≡◌ {A = ℕ} 0 (cond b 0 0)
cond-zero true = refl
cond-zero false = refl

abbrev nothing : Weight
nothing = record { v = 0; s = 0 }

-- a path without a mark adds nothing
pub far-step : (scene : Scene) (literals : List Literal) (near : List Bool) (path : ℕ) → IsNear scene.instance.now literals near → path < length scene.instance.now.paths → near_at near path ≡ false → IsStep scene literals near path (Some nothing)
far-step scene literals near path marks small off =
    let none = far-least scene.instance.now literals path (marks.apart path small off) (excluded_by scene literals) scene.level in (
      and_left (near_at near path) (stuck_by scene literals path) off,
      cond-zero (names literals path) ∙ ap (λ (p : Pair). cond (names literals path) 0 p.v) (sym none),
      cond-zero (names literals path) ∙ ap (λ (p : Pair). cond (names literals path) 0 p.s) (sym none),
      omega arith,
      omega arith,
    )

-- nor does a named one
pub named-step : (scene : Scene) (literals : List Literal) (near : List Bool) (path : ℕ) → names literals path ≡ true → IsStep scene literals near path (Some nothing)
named-step scene literals near path on = (
  and_right (near_at near path) (stuck_by scene literals path) (and_left (not (names literals path)) (is_none (least_pair (excluded_by scene literals) scene.instance.now scene.level literals path)) (ap not on)),
  sym (ap (λ b. cond b 0 (least_by scene literals path).v) on),
  sym (ap (λ b. cond b 0 (least_by scene literals path).s) on),
  omega arith,
  omega arith,
)

both-true : (a b c d : Bool) → a ≡ false → b ≡ false → d ≡ c → c ≡ (not a && (not b && d))
both-true a b c d e f g = sym (ap (λ x. not x && (not b && d)) e ∙ (ap (λ x. not x && d) f ∙ g))

-- a path without a mark is stuck where all of its choices are excluded
pub far-stuck : (scene : Scene) (literals : List Literal) (near : List Bool) (path : ℕ) → IsNear scene.instance.now literals near → path < length scene.instance.now.paths → near_at near path ≡ false → names literals path ≡ false →
    list_all (λ index. excluded_by scene literals (literal path index)) (range_with_len 0 (count_at scene.instance.now path)) ≡ (not (near_at near path) && stuck_by scene literals path)
far-stuck scene literals near path marks small off free =
    both-true (near_at near path) (names literals path) _ (is_none (least_pair (excluded_by scene literals) scene.instance.now scene.level literals path)) off free
    (far-none scene.instance.now literals path (marks.apart path small off) (excluded_by scene literals) scene.level)
