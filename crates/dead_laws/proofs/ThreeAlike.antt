-- Three paths of two frequencies each, no two of which may have one at any level.
use Rattle.std.proofs.Common.{◌≡◌, ◌≢◌, ◌⊎◌, ℕ, zero, suc, ◌+◌, ◌<◌, Bool, true, false, not, [], ◌∷◌, length, IsTrue, refl, sym, ap, ◌∙◌, subst, inr, arith}
use Rattle.std.proofs.lemmas.Bool.{false≢true, not-true, true≢false}
use Rattle.std.proofs.lemmas.List.Elements.{All-cons, All-nil}
use Rattle.fapp_model.specs.declared.literal.Literal.{Literal}
use Rattle.fapp_model.specs.search.Arcs.{InArc, OutsideArc}
use Rattle.fapp_model.specs.Assignments.{count_at}
use Rattle.fapp_model.specs.search.Clashes.{clashes_with}
use Rattle.fapp_model.specs.search.Dead.{Dead, IsLeastAdded, no_choice_left, over_limit}
use Rattle.fapp_model.specs.search.Pairs.{Pair, IsPairAtMost, IsPairBelow, limit_of}
use Rattle.fapp_model.specs.search.Partials.{literal, names, IsLiteral, IsPartial}
use Rattle.fapp_model.specs.Tags.{least_tag, mode_level}
use Rattle.fapp_model.specs.search.Weights.{added_pair, pair_with}
use Rattle.dead_laws.specs.ExampleInstances.{three_alike}
use Rattle.dead_laws.specs.ExampleLaws.{EachThreeDie, OneChoiceLives, UnlikeSum, UnlikeTags, eleven_levels, tag, three_choices, unlike}
use Rattle.dead_laws.proofs.DeadTests.{clash-dead, has_clash, least-pairs, least_pairs}
use Rattle.dead_laws.proofs.ExamplesValid.{three-valid}
use Rattle.dead_laws.proofs.ExampleTests.{all_below, below-all, below-three, each-inside, lives, no-literals, one-more}

pub at-three : (path index : ℕ) → path < 3 → index < 2 → IsLiteral three_alike (literal path index)
unfolding three_alike
at-three zero index l m = record { path = omega arith; choice = m }
at-three (suc zero) index l m = record { path = omega arith; choice = m }
at-three (suc (suc zero)) index l m = record { path = omega arith; choice = m }
at-three (suc (suc (suc path))) index l m = absurd (omega arith)

positive : (k v s : ℕ) → 0 < k → tag k v s ≡ least_tag → ⊥
positive k v s small e = omega (arith, ap (λ t. t.k) e)

-- ---- one choice

one-partial : IsPartial three_alike (literal 0 0 ∷ [])
one-partial = one-more three_alike (literal 0 0) [] (at-three 0 0 (omega arith) (omega arith)) (All-nil _) (no-literals three_alike)

pub one-lives : OneChoiceLives
unfolding three_alike
one-lives = lives three_alike (tag 11 0 0) (literal 0 0 ∷ []) one-partial three-valid refl refl refl (positive 11 0 0 (omega arith)) (λ some. absurd (false≢true some))

-- ---- two unlike choices

unlike-partial : IsPartial three_alike unlike
unlike-partial = one-more three_alike (literal 0 0) (literal 1 1 ∷ []) (at-three 0 0 (omega arith) (omega arith))
    (All-cons (λ b. 0 ≢ b.path) (literal 1 1) [] (λ e. omega (arith, e)) (All-nil _))
    (one-more three_alike (literal 1 1) [] (at-three 1 1 (omega arith) (omega arith)) (All-nil _) (no-literals three_alike))

third-inside : InArc three_alike 11 (literal 2 0)
unfolding three_alike
third-inside = each-inside three_alike 11 three-valid refl (literal 2 0) (at-three 2 0 (omega arith) (omega arith))

-- the third path adds one pair by either choice
third-adds : (index : ℕ) → index < count_at three_alike 2 → added_pair three_alike 11 unlike (literal 2 index) ≡ eleven_levels
unfolding three_alike
third-adds zero l = refl
third-adds (suc zero) l = refl
third-adds (suc (suc index)) l = absurd (omega arith)

unlike-least : IsLeastAdded (OutsideArc three_alike 11) three_alike 11 unlike 2 eleven_levels
unfolding three_alike
unlike-least = record {
  index = 0;
  in_range = omega arith;
  remains = record { kept = λ out. out third-inside; free = refl };
  reached = third-adds 0 (omega arith);
  least = λ other small r. subst (IsPairAtMost eleven_levels) (sym (third-adds other small)) (inr (refl, omega arith));
}

sum-along : (outside : Literal → Type 0) (least : ℕ → Pair) → IsLeastAdded outside three_alike 11 unlike 2 (least 2) → pair_with three_alike 11 unlike least ≡ eleven_levels
unfolding three_alike
sum-along outside least found =
    let e : eleven_levels ≡ least 2 = sym (third-adds found.index found.in_range) ∙ found.reached in
    subst (λ (p : Pair). pair_with three_alike 11 unlike (λ path. p) ≡ eleven_levels) e refl

pub unlike-sum : UnlikeSum
unlike-sum = record { least = unlike-least; sum = sum-along (OutsideArc three_alike 11) }

third-blocked : (index : ℕ) → index < count_at three_alike 2 → OutsideArc three_alike 10 (literal 2 index) ⊎ IsTrue (clashes_with three_alike 10 unlike (literal 2 index))
unfolding three_alike
third-blocked zero l = inr refl
third-blocked (suc zero) l = inr refl
third-blocked (suc (suc index)) l = absurd (omega arith)

unlike-level : Dead three_alike (tag 11 0 0) unlike
unfolding three_alike
unlike-level = no_choice_left 2 (omega arith) refl third-blocked

-- only the third path is open
open-third : (path : ℕ) → path < length three_alike.paths → names unlike path ≡ false → IsLeastAdded (OutsideArc three_alike 11) three_alike 11 unlike path eleven_levels
unfolding three_alike
open-third zero l open_path = absurd (true≢false open_path)
open-third (suc zero) l open_path = absurd (true≢false open_path)
open-third (suc (suc zero)) l open_path = unlike-least
open-third (suc (suc (suc path))) l open_path = absurd (omega arith)

unlike-limit : Dead three_alike (tag 11 1 10) unlike
unfolding three_alike
unlike-limit = over_limit refl (λ path. eleven_levels) open-third (inr (refl, omega arith))

unlike-lives : Dead three_alike (tag 11 1 11) unlike → ⊥
unfolding three_alike
unlike-lives = lives three_alike (tag 11 1 11) unlike unlike-partial three-valid refl refl refl (positive 11 1 11 (omega arith)) (λ some.
    subst (λ p. IsPairBelow p (limit_of (tag 11 1 11))) (sym (sum-along (λ a. false ≡ true) (least_pairs three_alike 11 (λ a. false) unlike)
    (least-pairs three_alike (tag 11 1 11) (λ a. false) unlike unlike-partial refl refl refl 2 (omega arith) refl))) (inr (refl, omega arith)))

pub unlike-tags : UnlikeTags
unlike-tags = record { level = unlike-level; limit = unlike-limit; greater_limit = unlike-lives }

-- ---- a choice of each path

three-partial : (first second third : ℕ) → first < 2 → second < 2 → third < 2 → IsPartial three_alike (three_choices first second third)
three-partial first second third l m n =
    one-more three_alike (literal 0 first) (literal 1 second ∷ literal 2 third ∷ []) (at-three 0 first (omega arith) l)
    (All-cons (λ b. 0 ≢ b.path) (literal 1 second) (literal 2 third ∷ []) (λ e. omega (arith, e)) (All-cons (λ b. 0 ≢ b.path) (literal 2 third) [] (λ e. omega (arith, e)) (All-nil _)))
    (one-more three_alike (literal 1 second) (literal 2 third ∷ []) (at-three 1 second (omega arith) m)
    (All-cons (λ b. 1 ≢ b.path) (literal 2 third) [] (λ e. omega (arith, e)) (All-nil _))
    (one-more three_alike (literal 2 third) [] (at-three 2 third (omega arith) n) (All-nil _) (no-literals three_alike)))

-- whether two of the choices clash at a level
abbrev clash_at : ℕ → ℕ → ℕ → ℕ → Bool
clash_at first second third level = has_clash three_alike level (three_choices first second third)

two-clash : (first second third level : ℕ) → first < 2 → second < 2 → third < 2 → level < 11 → has_clash three_alike (mode_level (tag (level + 1) 0 0)) (three_choices first second third) ≡ true
unfolding three_alike
two-clash first second third level l m n k =
    below-all 11 (λ q. clash_at first second third (mode_level (tag (q + 1) 0 0)))
    (below-three 2 (λ i j k. all_below 11 (λ q. clash_at i j k (mode_level (tag (q + 1) 0 0)))) refl first second third l m n)
    level k

none-clash : (first second third : ℕ) → first < 2 → second < 2 → third < 2 → clash_at first second third 11 ≡ false
unfolding three_alike
none-clash first second third l m n = not-true (clash_at first second third 11) (below-three 2 (λ i j k. not (clash_at i j k 11)) refl first second third l m n)

last-lives : (first second third : ℕ) → first < 2 → second < 2 → third < 2 → Dead three_alike (tag 12 0 0) (three_choices first second third) → ⊥
unfolding three_alike
last-lives first second third l m n =
    lives three_alike (tag 12 0 0) (three_choices first second third) (three-partial first second third l m n) three-valid refl
    (none-clash first second third l m n) refl (positive 12 0 0 (omega arith)) (λ some. absurd (false≢true some))

pub each-three : EachThreeDie
each-three first second third l m n = record {
  levels = λ level small.
      clash-dead (OutsideArc three_alike (mode_level (tag (level + 1) 0 0))) three_alike (tag (level + 1) 0 0) (three_choices first second third)
      (two-clash first second third level l m n (omega arith));
  last = last-lives first second third l m n;
}
